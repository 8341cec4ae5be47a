-- What is locked at a desk: its course, and the total of its ledger.
use Rattle.std.specs.Prelude.{ℕ, refl}
use Rattle.std.specs.Coded.{Coded, code_by, coded×, coded_ℕ}
use Rattle.wb_desk.specs.Courses.{Course, course_code}

pub record Locked : Type 0 where
  pub course : Course
  pub total : ℕ

abbrev pub locked_code : Coded Locked
locked_code = code_by (Course × ℕ) (coded× course_code coded_ℕ) (λ s. (s.course, s.total)) (λ p. record { course = p.0; total = p.1 }) (λ s. refl)
