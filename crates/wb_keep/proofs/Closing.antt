-- The room behind the mark is cut off.
use Rattle.std.proofs.Common.{◌≡◌, refl, ℕ, ◌+◌, ◌-◌, List, [], ◌∷◌, ◌++◌, length, take, ap, sym, subst, ◌∙◌, arith, append_assoc, append-nil, length-append}
use Rattle.std.proofs.lemmas.List.{take_at}
use Rattle.wb_keep.specs.Disk.Device.{Cut, Only, LeavesOnly}
use Rattle.wb_keep.specs.Lines.{header, recovered, zeros, IsAtRest, IsClosed}
use Rattle.wb_keep.specs.Keep.{IsSettled}
use Rattle.wb_keep.specs.Repair.{StandsForTheSame}
use Rattle.wb_keep.specs.declared.keep.LineLog.{LineLog}
use Rattle.wb_keep.proofs.Disks.Moments.{started, weaker}
use Rattle.wb_keep.proofs.Crash.{recovered_rest, mark_none, length-zeros}
use Rattle.wb_keep.proofs.Repair.{take_past}

module _ (file : List ℕ) (rest : IsAtRest file) (mark : ℕ) (at : mark + 1 + rest.room ≡ length file) where
  abbrev pub closed_file : List ℕ
  closed_file = header ++ rest.batches ++ 35 ∷ []

  is : file ≡ closed_file ++ zeros rest.room
  is = rest.is ∙ ap (λ (l : List ℕ). header ++ l) (sym (append_assoc rest.batches (35 ∷ []) (zeros rest.room)))

  size : length closed_file ≡ mark + 1
  size = omega (arith, at, ap length is, length-append closed_file (zeros rest.room), length-zeros rest.room)

  -- behind the mark stands anything
  behind : (rest_of_it : List ℕ) → StandsForTheSame file (closed_file ++ rest_of_it)
  behind rest_of_it = record {
    lines = ap recovered (ap (λ (l : List ℕ). header ++ l) (append_assoc rest.batches (35 ∷ []) rest_of_it))
        ∙ recovered_rest rest.batches (35 ∷ rest_of_it) rest.whole (mark_none rest_of_it)
        ∙ sym (ap recovered rest.is ∙ recovered_rest rest.batches (35 ∷ zeros rest.room) rest.whole (mark_none (zeros rest.room)));
    head = λ _. refl;
  }

  pub cut_stands : (c : List ℕ) → Cut (mark + 1) file c → StandsForTheSame file c
  cut_stands c cut =
      let left = take (length c - (mark + 1)) (zeros rest.room) in
      let same : closed_file ++ left ≡ c =
      sym (ap (take (length c)) is ∙ take_past closed_file (zeros rest.room) (length c) (length c - (mark + 1)) (omega (arith, size, cut.no_shorter))) ∙ cut.front in
      subst (StandsForTheSame file) same (behind left)

  pub is_closed_file : (new : List ℕ) → new ≡ take (mark + 1) file → new ≡ closed_file
  is_closed_file new cut = cut ∙ ap (take (mark + 1)) is ∙ take_at closed_file (zeros rest.room) (mark + 1) size

  pub cut_closed : (new : List ℕ) → new ≡ take (mark + 1) file → IsClosed new
  cut_closed new cut = record { rest = record { batches = rest.batches; room = 0; is = is_closed_file new cut; whole = rest.whole }; no_room = refl }

  pub cut_same : (new : List ℕ) → new ≡ take (mark + 1) file → recovered new ≡ recovered file
  cut_same new cut = ap recovered (is_closed_file new cut ∙ sym (append-nil closed_file)) ∙ (behind []).lines

  pub cut_size : (new : List ℕ) → new ≡ take (mark + 1) file → length new ≡ mark + 1
  cut_size new cut = ap length (is_closed_file new cut) ∙ size

  -- it ends with the mark already
  pub ends : (last : ℕ) → last + 1 ≡ length file → last ≡ mark → IsClosed file
  ends last long same = record { rest = rest; no_room = omega (arith, at, long, same) }

module _ {D : Type 0} (seen : D → List ℕ) (moment : D → ℕ) (left_since : D → ℕ → List ℕ → Type 0) (may_leave : D → List ℕ → Type 0) (log : LineLog D) (s : IsSettled seen may_leave log) where
  -- no call is made on the file
  pub unmoved : ((c : List ℕ) → left_since log.device (moment log.device) c → may_leave log.device c)
      → LeavesOnly moment left_since log.device log.device (StandsForTheSame (seen log.device))
  unmoved only_now =
      let P = StandsForTheSame (seen log.device) in
      started moment left_since log.device P (λ c left. subst P (sym (s.durable c (only_now c left))) (record { lines = refl; head = λ head. head }))

  pub moments : (new : D) → LeavesOnly moment left_since log.device new (Cut (log.mark + 1) (seen log.device)) → LeavesOnly moment left_since log.device new (StandsForTheSame (seen log.device))
  moments new cut =
      weaker moment left_since log.device new (Cut (log.mark + 1) (seen log.device)) (StandsForTheSame (seen log.device))
      (cut_stands (seen log.device) s.file log.mark s.mark) cut

  pub settled : (new : LineLog D) → new.mark ≡ log.mark → new.last ≡ log.mark → seen new.device ≡ take (log.mark + 1) (seen log.device) → Only (seen new.device) (may_leave new.device)
      → IsSettled seen may_leave new × (recovered (seen new.device) ≡ recovered (seen log.device))
  settled new mark last cut durable =
      let long = cut_size (seen log.device) s.file log.mark s.mark (seen new.device) cut in
      let closed = is_closed_file (seen log.device) s.file log.mark s.mark (seen new.device) cut in (
        record {
          file = record { batches = s.file.batches; room = 0; is = closed; whole = s.file.whole };
          mark = omega (arith, mark, long);
          last = omega (arith, last, long);
          durable = durable;
        },
        cut_same (seen log.device) s.file log.mark s.mark (seen new.device) cut,
      )
