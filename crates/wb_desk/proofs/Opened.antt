-- A desk as it is opened.
use Rattle.std.proofs.Common.{◌≡◌, ◌∙◌, ℕ, [], sym, ap}
use Rattle.wb_history.specs.Past.{Past}
use Rattle.wb_desk.specs.Courses.{Course, IsCourse, Start, count_of, empty_lists}
use Rattle.wb_desk.proofs.Courses.{count_none, tells_nothing}

pub opened_course : (opening : Start) (history : Past) (n : ℕ) (c : Course) → opening.history ≡ history
    → c ≡ record { seats = n; entries = empty_lists n; settled = 0; history = history } → IsCourse opening c
opened_course opening history n c first is = record {
  all = [];
  tells = tells_nothing opening.history c n (ap (λ (x : Course). x.seats) is) (ap (λ (x : Course). x.entries) is) (ap (λ (x : Course). x.settled) is)
      (ap (λ (x : Course). x.history) is ∙ sym first);
  none = λ plain. ap (λ (x : Course). x.settled) is;
}

pub opened_count : (history : Past) (n : ℕ) (c : Course) (total : ℕ) → total ≡ 0 → c ≡ record { seats = n; entries = empty_lists n; settled = 0; history = history }
    → total ≡ count_of c.entries
opened_count history n c total none is = none ∙ sym (ap (λ (x : Course). count_of x.entries) is ∙ count_none n)
