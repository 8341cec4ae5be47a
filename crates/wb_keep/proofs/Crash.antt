-- What a crash leaves of a batch that is written over the mark behind whole batches.
use Rattle.std.proofs.Common.{◌≡◌, ◌⊎◌, ◌≤◌, inl, inr, ℕ, zero, suc, ◌+◌, ◌-◌, true, List, [], ◌∷◌, ◌++◌, length, get_or, take, drop, refl, sym, ◌∙◌, ap, subst, arith, append_assoc, append-nil, length-append, take-append-drop}
use Rattle.std.proofs.lemmas.List.{take_at, drop-replicate, length-replicate, replicate-append-replicate, get_or-drop, get_or-append_right}
use Rattle.std.proofs.Math.Seq.{drop-append-add}
use Rattle.wb_keep.specs.Disk.Device.{Holds, Torn, OneOf}
use Rattle.wb_keep.specs.Lines.{onto, lines_of, stuffed, has_hole, with_next, counted, marked, header, recovered, zeros, HasHeader, IsWhole, IsAtRest}
use Rattle.wb_keep.specs.Keep.{IsBeforeOrAfter}
use Rattle.wb_keep.proofs.Feeds.{IsLine, AreLines, lines_of_other}
use Rattle.wb_keep.proofs.Batches.{with_hole, no_hole, not_counted, stuffed_line, marked_line, marked_alone, whole_marked, whole_append}

-- each byte is one of the block, or 0, which stands for what is missing too
abbrev pub Holed : List ℕ → List ℕ → Type 0
Holed block left = (i : ℕ) → (get_or left i 0 ≡ get_or block i 0) ⊎ (get_or left i 0 ≡ 0)

-- the first line has a hole, or none is ended
abbrev pub Spoiled : List (List ℕ) → Type 0
Spoiled [] = Unit {0}
Spoiled (line ∷ lines) = has_hole line ≡ true

spoiled_here : (lines : List (List ℕ)) → Spoiled (onto 0 lines)
spoiled_here [] = tt
spoiled_here (line ∷ lines) = refl

spoiled_more : (byte : ℕ) (lines : List (List ℕ)) → Spoiled lines → Spoiled (onto byte lines)
spoiled_more byte [] spoiled = tt
spoiled_more zero (line ∷ lines) spoiled = refl
spoiled_more (suc byte) (line ∷ lines) spoiled = no_hole (suc byte) line (omega arith) ∙ spoiled

spoiled_none : (mark : ℕ) (lines : List (List ℕ)) → Spoiled lines → counted (onto mark lines) ≡ []
spoiled_none mark [] spoiled = refl
spoiled_none mark (line ∷ lines) spoiled = with_hole mark line lines spoiled

-- what is left of a line, its feed and what stands behind: the line is whole, or it is spoiled
first_line : (line rest left : List ℕ) → IsLine line → Holed (line ++ 10 ∷ rest) left → Spoiled (lines_of left) ⊎ ((more : List ℕ) × (left ≡ line ++ 10 ∷ more) × Holed rest more)
first_line line rest [] is holed = inl tt
first_line [] rest (byte ∷ left) is holed = elim (holed 0) [
  | inl feed ↦ inr (left, ap (λ (b : ℕ). b ∷ left) feed, λ i. holed (suc i))
  | inr hole ↦ inl (subst (λ (b : ℕ). Spoiled (lines_of (b ∷ left))) (sym hole) (spoiled_here (lines_of left)))
]
first_line (byte ∷ line) rest (b ∷ left) is holed = elim (holed 0) [
  | inl same ↦ elim (first_line line rest left is.1 (λ i. holed (suc i))) [
    | inl spoiled ↦
        let all : lines_of (b ∷ left) ≡ onto byte (lines_of left) = ap (λ (x : ℕ). lines_of (x ∷ left)) same ∙ lines_of_other byte left is.0 in
        inl (subst Spoiled (sym all) (spoiled_more byte (lines_of left) spoiled))
    | inr found ↦ inr (found.0, (λ i. same i ∷ found.1 i), found.2)
  ]
  | inr hole ↦ inl (subst (λ (x : ℕ). Spoiled (lines_of (x ∷ left))) (sym hole) (spoiled_here (lines_of left)))
]

-- nothing of a batch counts, or all of it
abbrev pub NoneOrAll : List (List ℕ) → List ℕ → Type 0
NoneOrAll new left = (counted (lines_of left) ≡ []) ⊎ (counted (lines_of left) ≡ new)

hole_first : (left : List ℕ) → counted (lines_of (0 ∷ left)) ≡ []
hole_first left = not_counted 0 left (omega arith) (omega arith)

-- of the mark behind a batch
left_of_mark : (left : List ℕ) → Holed (35 ∷ []) left → counted (lines_of left) ≡ []
left_of_mark [] holed = refl
left_of_mark (byte ∷ left) holed = elim (holed 0) [
  | inl mark ↦ ap (λ (b : ℕ). counted (lines_of (b ∷ left))) mark ∙ not_counted 35 left (omega arith) (omega arith)
  | inr hole ↦ ap (λ (b : ℕ). counted (lines_of (b ∷ left))) hole ∙ hole_first left
]

pub left_of_batch : (new : List (List ℕ)) → AreLines new → (left : List ℕ) → Holed (marked new ++ 35 ∷ []) left → NoneOrAll new left
left_of_batch [] are left holed = inl (left_of_mark left holed)
left_of_batch (line ∷ []) are [] holed = inl refl
left_of_batch (line ∷ []) are (byte ∷ left) holed = elim (holed 0) [
  | inr hole ↦ inl (ap (λ (b : ℕ). counted (lines_of (b ∷ left))) hole ∙ hole_first left)
  | inl mark ↦
      let behind : Holed (stuffed line ++ 10 ∷ 35 ∷ []) left = subst (λ (l : List ℕ). Holed l left) (append_assoc (stuffed line) (10 ∷ []) (35 ∷ [])) (λ i. holed (suc i)) in
      let marked_so : counted (lines_of (byte ∷ left)) ≡ counted (onto 32 (lines_of left)) = ap (λ (b : ℕ). counted (lines_of (b ∷ left))) mark in
      elim (first_line (stuffed line) (35 ∷ []) left (stuffed_line line are.0) behind) [
        | inl spoiled ↦ inl (marked_so ∙ spoiled_none 32 (lines_of left) spoiled)
        | inr found ↦ inr (
            marked_so ∙ ap (λ (l : List ℕ). counted (onto 32 (lines_of l))) found.1 ∙ marked_line 32 line (omega arith) are.0 found.0
            ∙ ap (λ (ls : List (List ℕ)). line ∷ ls) (left_of_mark found.0 found.2)
            )
      ]
]
left_of_batch (line ∷ next ∷ lines) are [] holed = inl refl
left_of_batch (line ∷ next ∷ lines) are (byte ∷ left) holed = elim (holed 0) [
  | inr hole ↦ inl (ap (λ (b : ℕ). counted (lines_of (b ∷ left))) hole ∙ hole_first left)
  | inl mark ↦
      let more = marked (next ∷ lines) in
      let behind : Holed (stuffed line ++ (10 ∷ (more ++ 35 ∷ []))) left = subst (λ (l : List ℕ). Holed l left) (append_assoc (stuffed line) (10 ∷ more) (35 ∷ [])) (λ i. holed (suc i)) in
      let marked_so : counted (lines_of (byte ∷ left)) ≡ counted (onto 43 (lines_of left)) = ap (λ (b : ℕ). counted (lines_of (b ∷ left))) mark in
      elim (first_line (stuffed line) (more ++ 35 ∷ []) left (stuffed_line line are.0) behind) [
        | inl spoiled ↦ inl (marked_so ∙ spoiled_none 43 (lines_of left) spoiled)
        | inr found ↦
            let so_far = marked_so ∙ ap (λ (l : List ℕ). counted (onto 43 (lines_of l))) found.1 ∙ marked_line 43 line (omega arith) are.0 found.0 in
            elim (left_of_batch (next ∷ lines) are.1 found.0 found.2) [
              | inl none ↦ inl (so_far ∙ ap (with_next line) none)
              | inr all ↦ inr (so_far ∙ ap (with_next line) all)
            ]
      ]
]

-- a mark that does not count, over which the batch is written, may still stand there
left_of_write : (new : List (List ℕ)) → AreLines new → (left : List ℕ) → ((i : ℕ) → OneOf (get_or (35 ∷ []) i 0) (get_or (marked new ++ 35 ∷ []) i 0) (get_or left i 0)) → NoneOrAll new left
left_of_write new are [] each = inl refl
left_of_write new are (byte ∷ left) each = elim (each 0) [
  | inl old ↦ inl (ap (λ (b : ℕ). counted (lines_of (b ∷ left))) old ∙ not_counted 35 left (omega arith) (omega arith))
  | inr first ↦ left_of_batch new are (byte ∷ left) (holed first)
]
  where
    behind : (i : ℕ) → OneOf (get_or (35 ∷ []) (suc i) 0) (get_or (marked new ++ 35 ∷ []) (suc i) 0) (get_or left i 0) → (get_or left i 0 ≡ get_or (marked new ++ 35 ∷ []) (suc i) 0) ⊎ (get_or left i 0 ≡ 0)
    behind i (inl none) = inr none
    behind i (inr one) = one

    holed : (byte ≡ get_or (marked new ++ 35 ∷ []) 0 0) ⊎ (byte ≡ 0) → Holed (marked new ++ 35 ∷ []) (byte ∷ left)
    holed first zero = first
    holed first (suc i) = behind i (each (suc i))

-- what a file at rest stands for
pub recovered_rest : (batches rest : List ℕ) → IsWhole batches → counted (lines_of rest) ≡ [] → recovered (header ++ batches ++ rest) ≡ counted (lines_of batches)
recovered_rest batches rest whole none = whole rest ∙ ap (λ (ls : List (List ℕ)). counted (lines_of batches) ++ ls) none ∙ append-nil (counted (lines_of batches))

pub mark_none : (behind : List ℕ) → counted (lines_of (35 ∷ behind)) ≡ []
mark_none behind = not_counted 35 behind (omega arith) (omega arith)

-- bytes 0 are as none: behind an end `get_or` says 0
no_byte : (n i : ℕ) → get_or (zeros n) i 0 ≡ 0
no_byte zero i = refl
no_byte (suc n) zero = refl
no_byte (suc n) (suc i) = no_byte n i

before_zeros : (bytes : List ℕ) (n i : ℕ) → get_or (bytes ++ zeros n) i 0 ≡ get_or bytes i 0
before_zeros [] n i = no_byte n i
before_zeros (byte ∷ bytes) n zero = refl
before_zeros (byte ∷ bytes) n (suc i) = before_zeros bytes n i

pub length-zeros : (n : ℕ) → length (zeros n) ≡ n
length-zeros n = length-replicate {A = ℕ} n 0

module _ (file : List ℕ) (rest : IsAtRest file) (new : List (List ℕ)) (are : AreLines new) (mark : ℕ) (at : mark + 1 + rest.room ≡ length file)
    (block : List ℕ) (is_block : block ≡ marked new ++ 35 ∷ []) (more : ℕ) (bytes : List ℕ) (are_bytes : bytes ≡ block ++ zeros more) where
  abbrev pub front : List ℕ
  front = header ++ rest.batches

  abbrev pub old : List (List ℕ)
  old = counted (lines_of rest.batches)

  abbrev pub tail : List ℕ
  tail = 35 ∷ zeros rest.room

  is : file ≡ front ++ tail
  is = rest.is

  stands_for : recovered file ≡ old
  stands_for = ap recovered is ∙ recovered_rest rest.batches tail rest.whole (mark_none (zeros rest.room))

  size : length front ≡ mark
  size = omega (arith, at, ap length is, length-append front tail, length-zeros rest.room)

  before : take mark file ≡ front
  before = ap (λ (l : List ℕ). take mark l) is ∙ take_at front tail mark size

  was : (i : ℕ) → get_or file (mark + i) 0 ≡ get_or (35 ∷ []) i 0
  was i =
      let same : mark + i - mark ≡ i = omega arith in
      ap (λ (l : List ℕ). get_or l (mark + i) 0) is ∙ get_or-append_right front tail mark (mark + i) 0 size (omega arith) ∙ ap (λ (n : ℕ). get_or tail n 0) same
      ∙ before_zeros (35 ∷ []) rest.room i

  is_put : (i : ℕ) → get_or bytes i 0 ≡ get_or (marked new ++ 35 ∷ []) i 0
  is_put i = ap (λ (l : List ℕ). get_or l i 0) are_bytes ∙ before_zeros block more i ∙ ap (λ (l : List ℕ). get_or l i 0) is_block

  -- behind the batches stands what is left of the write
  stands : (c : List ℕ) → c ≡ front ++ drop mark c → NoneOrAll new (drop mark c) → IsBeforeOrAfter (recovered file) new c
  stands c split (inl none) = record {
    head = subst HasHeader (sym split) refl;
    lines = inl (ap recovered split ∙ recovered_rest rest.batches (drop mark c) rest.whole none ∙ sym stands_for);
  }
  stands c split (inr all) = record {
    head = subst HasHeader (sym split) refl;
    lines = inr (ap recovered split ∙ rest.whole (drop mark c) ∙ (λ i. sym stands_for i ++ all i));
  }

  pub torn_batch : (c : List ℕ) → Torn mark bytes file c → IsBeforeOrAfter (recovered file) new c
  torn_batch c torn =
      let split : c ≡ front ++ drop mark c = sym (take-append-drop mark c) ∙ ap (λ (l : List ℕ). l ++ drop mark c) (torn.before ∙ before) in
      stands c split
      (left_of_write new are (drop mark c)
      (λ i. subst (λ (x : ℕ). OneOf (get_or (35 ∷ []) i 0) (get_or (marked new ++ 35 ∷ []) i 0) x) (sym (get_or-drop mark c i 0))
      (subst (λ (x : ℕ). OneOf x (get_or (marked new ++ 35 ∷ []) i 0) (get_or c (mark + i) 0)) (was i)
      (subst (λ (x : ℕ). OneOf (get_or file (mark + i) 0) x (get_or c (mark + i) 0)) (is_put i) (torn.each i)))))

  -- all of it is written
  abbrev pub all_batches : List ℕ
  all_batches = rest.batches ++ marked new

  pub all_whole : IsWhole all_batches
  all_whole = whole_append rest.batches (marked new) rest.whole (whole_marked new are)

  many : 1 ≤ length block
  many = omega (arith, ap length is_block, length-append (marked new) (35 ∷ []))

  long : length bytes ≡ length block + more
  long = ap length are_bytes ∙ length-append block (zeros more) ∙ ap (λ (n : ℕ). length block + n) (length-zeros more)

  -- the room that was there, so far as it is not written over
  abbrev pub kept : ℕ
  kept = rest.room - (length bytes - 1)

  -- it stands behind the one that is written
  abbrev pub room : ℕ
  room = more + kept

  behind : drop (mark + length bytes) file ≡ zeros kept
  behind =
      let one : length bytes ≡ suc (length bytes - 1) = omega (arith, long, many) in
      (λ i. drop (sym size i + length bytes) (is i)) ∙ drop-append-add front tail (length bytes) ∙ ap (λ (n : ℕ). drop n tail) one
      ∙ drop-replicate {X = ℕ} (length bytes - 1) rest.room 0

  pub written : (c : List ℕ) → Holds file mark bytes c → c ≡ header ++ all_batches ++ 35 ∷ zeros room
  written c holds =
      let joined : zeros more ++ zeros kept ≡ zeros room = replicate-append-replicate {A = ℕ} more kept 0 in
      let put : bytes ++ zeros kept ≡ marked new ++ 35 ∷ zeros room =
      ap (λ (l : List ℕ). l ++ zeros kept) are_bytes ∙ append_assoc block (zeros more) (zeros kept) ∙ (λ i. is_block i ++ joined i) ∙ append_assoc (marked new) (35 ∷ []) (zeros room) in
      holds
      ∙ (λ i. before i ++ bytes ++ behind i)
      ∙ append_assoc front bytes (zeros kept)
      ∙ ap (λ (l : List ℕ). front ++ l) put
      ∙ ap (λ (l : List ℕ). header ++ l) (sym (append_assoc rest.batches (marked new) (35 ∷ zeros room)))

  pub written_lines : (c : List ℕ) → Holds file mark bytes c → recovered c ≡ recovered file ++ new
  written_lines c holds =
      ap recovered (written c holds) ∙ recovered_rest all_batches (35 ∷ zeros room) all_whole (mark_none (zeros room))
      ∙ rest.whole (marked new) ∙ (λ i. sym stands_for i ++ marked_alone new are i)

  pub length-written : (c : List ℕ) → Holds file mark bytes c → length c ≡ mark + length block + room
  length-written c holds =
      omega (arith, ap length (written c holds), size, ap length is_block, length-append header rest.batches, length-append header (all_batches ++ 35 ∷ zeros room), length-append all_batches (35 ∷ zeros room), length-append rest.batches (marked new), length-append (marked new) (35 ∷ []), length-zeros room)

-- a block that is a mark alone has no line
pub no_new : (new : List (List ℕ)) (block : List ℕ) → block ≡ marked new ++ 35 ∷ [] → length block ≡ 1 → new ≡ []
no_new [] block is one = refl
no_new (line ∷ []) block is one = let size = ap length is in absurd (omega (arith, one, size, length-append (32 ∷ stuffed line ++ 10 ∷ []) (35 ∷ []), length-append (stuffed line) (10 ∷ [])))
no_new (line ∷ next ∷ lines) block is one =
    let more = marked (next ∷ lines) in
    let size = ap length is in
    absurd (omega (arith, one, size, length-append (43 ∷ stuffed line ++ 10 ∷ more) (35 ∷ []), length-append (stuffed line) (10 ∷ more)))

-- a new file of one batch
pub one_batch : (new : List (List ℕ)) → AreLines new → (file : List ℕ) → file ≡ header ++ marked new ++ 35 ∷ [] → IsAtRest file × (recovered file ≡ new)
one_batch new are file is = (
  record { batches = marked new; room = 0; is = is; whole = whole_marked new are },
  ap recovered is ∙ recovered_rest (marked new) (35 ∷ []) (whole_marked new are) (mark_none []) ∙ marked_alone new are,
)
