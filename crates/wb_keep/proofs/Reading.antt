-- A file is read from the front.
use Rattle.std.proofs.Common.{◌≡◌, ◌⊎◌, ◌≤◌, ◌<◌, ⊎_elim, ℕ, nat_eq, Bool, true, false, List, [], ◌∷◌, ◌++◌, length, take, drop, map, slice_index_or, Vec, Global, refl, sym, ◌∙◌, ap, subst, arith, append_assoc, append-nil, length-append, take-append-drop}
use Rattle.std.proofs.lemmas.List.{take_all, drop_all, take-append-le, drop-append-le, map-append, take-map, length-map}
use Rattle.wb_keep.specs.Lines.{onto, lines_of, unstuffed, has_hole, with_next, counted, IsWhole}
use Rattle.wb_keep.specs.Reading.{IsReadTo, next_of}
use Rattle.wb_keep.proofs.Feeds.{IsLine, AreLines, are_lines, line_ended}
use Rattle.wb_keep.proofs.Batches.{without_hole}

-- what is read so is whole batches
pub whole_read : (bytes left : List ℕ) (known : List (List ℕ)) → (read : IsReadTo bytes left (λ lines. known ++ lines)) → IsWhole read.read
whole_read bytes left known read rest =
    let all : counted (lines_of read.read) ≡ known = ap (λ (l : List ℕ). counted (lines_of l)) (sym (append-nil read.read)) ∙ read.counts [] ∙ append-nil known in
    read.counts rest ∙ ap (λ (ls : List (List ℕ)). ls ++ counted (lines_of rest)) (sym all)

-- the lines of a batch without its end, in front of those that count
abbrev pub with_more : List (List ℕ) → List (List ℕ) → List (List ℕ)
with_more [] lines = lines
with_more (line ∷ more) lines = with_next line (with_more more lines)

pub with_more_none : (more : List (List ℕ)) → with_more more [] ≡ []
with_more_none [] = refl
with_more_none (line ∷ more) = ap (with_next line) (with_more_none more)

pub with_more_last : (more : List (List ℕ)) (line : List ℕ) (lines : List (List ℕ)) → with_more (more ++ line ∷ []) lines ≡ with_more more (with_next line lines)
with_more_last [] line lines = refl
with_more_last (first ∷ more) line lines = ap (with_next first) (with_more_last more line lines)

pub with_more_end : (more : List (List ℕ)) (line : List ℕ) (lines : List (List ℕ)) → with_more more (line ∷ lines) ≡ more ++ line ∷ lines
with_more_end [] line lines = refl
with_more_end (first ∷ more) line lines = ap (with_next first) (with_more_end more line lines) ∙ not_none first more line lines
  where
    not_none : (first : List ℕ) (more : List (List ℕ)) (line : List ℕ) (lines : List (List ℕ)) → with_next first (more ++ line ∷ lines) ≡ first ∷ more ++ line ∷ lines
    not_none first [] line lines = refl
    not_none first (next ∷ more) line lines = refl

-- nothing is read
pub read_none : (bytes : List ℕ) (made : List (List ℕ) → List (List ℕ)) → ((lines : List (List ℕ)) → made lines ≡ lines) → IsReadTo bytes bytes made
read_none bytes made same = record { read = []; split = refl; counts = λ rest. sym (same (counted (lines_of rest))) }

-- it is read further
pub read_on : (bytes mid left : List ℕ) (first second made : List (List ℕ) → List (List ℕ)) → IsReadTo bytes mid first → IsReadTo mid left second → ((lines : List (List ℕ)) → first (second lines) ≡ made lines) → IsReadTo bytes left made
read_on bytes mid left first second made a b same = record {
  read = a.read ++ b.read;
  split = a.split ∙ ap (λ (l : List ℕ). a.read ++ l) b.split ∙ sym (append_assoc a.read b.read left);
  counts = λ rest. ap (λ (l : List ℕ). counted (lines_of l)) (append_assoc a.read b.read rest) ∙ a.counts (b.read ++ rest) ∙ ap first (b.counts rest) ∙ same (counted (lines_of rest));
}

-- what counts of all
pub read_all : (bytes left : List ℕ) (made : List (List ℕ) → List (List ℕ)) → IsReadTo bytes left made → counted (lines_of bytes) ≡ made (counted (lines_of left))
read_all bytes left made read = ap (λ (l : List ℕ). counted (lines_of l)) read.split ∙ read.counts left

-- a line behind its mark is read
abbrev pub mark_of : Bool → ℕ
mark_of true = 32
mark_of false = 43

pub one_line : (ends : Bool) (line after : List ℕ) → IsLine line → has_hole line ≡ false → IsReadTo (mark_of ends ∷ line ++ 10 ∷ after) after (next_of ends (unstuffed line))
one_line true line after is whole = record {
  read = 32 ∷ line ++ 10 ∷ [];
  split = ap (λ (l : List ℕ). 32 ∷ l) (sym (append_assoc line (10 ∷ []) after));
  counts = λ rest. ap (λ (l : List ℕ). counted (lines_of (32 ∷ l))) (append_assoc line (10 ∷ []) rest) ∙ ap (λ (ls : List (List ℕ)). counted (onto 32 ls)) (line_ended line is rest) ∙ without_hole 32 line (lines_of rest) whole;
}
one_line false line after is whole = record {
  read = 43 ∷ line ++ 10 ∷ [];
  split = ap (λ (l : List ℕ). 43 ∷ l) (sym (append_assoc line (10 ∷ []) after));
  counts = λ rest. ap (λ (l : List ℕ). counted (lines_of (43 ∷ l))) (append_assoc line (10 ∷ []) rest) ∙ ap (λ (ls : List (List ℕ)). counted (onto 43 ls)) (line_ended line is rest) ∙ without_hole 43 line (lines_of rest) whole;
}

-- the first line of bytes that begin with a mark
pub marked_read : (bytes line after : List ℕ) → 1 ≤ length bytes → (slice_index_or bytes 0 0 ≡ 32) ⊎ (slice_index_or bytes 0 0 ≡ 43)
    → (drop 1 bytes ≡ line ++ 10 ∷ after) × (lines_of (drop 1 bytes) ≡ line ∷ lines_of after) → has_hole line ≡ false
    → IsReadTo bytes after (next_of (nat_eq (slice_index_or bytes 0 0) 32) (unstuffed line)) × (length after < length bytes)
marked_read [] line after some which found whole = absurd (omega (arith, some))
marked_read (mark ∷ rest) line after some which found whole =
    let is : IsLine line = (subst AreLines found.1 (are_lines rest)).0 in
    let size : length after < length (mark ∷ rest) = omega (arith, ap length found.0, length-append line (10 ∷ after)) in
    ⊎_elim
    (λ ends. (
      subst (λ (m : ℕ). IsReadTo (m ∷ rest) after (next_of (nat_eq m 32) (unstuffed line))) (sym ends)
          (subst (λ (l : List ℕ). IsReadTo (32 ∷ l) after (next_of true (unstuffed line))) (sym found.0) (one_line true line after is whole)),
      size,
    ))
    (λ goes_on. (
      subst (λ (m : ℕ). IsReadTo (m ∷ rest) after (next_of (nat_eq m 32) (unstuffed line))) (sym goes_on)
          (subst (λ (l : List ℕ). IsReadTo (43 ∷ l) after (next_of false (unstuffed line))) (sym found.0) (one_line false line after is whole)),
      size,
    ))
    which

abbrev pub items_of : List (Vec ℕ Global) → List (List ℕ)
items_of lines = map (λ line. line.items) lines

module _ (bytes behind rest after : List ℕ) (whole : ℕ) (lines : List (Vec ℕ Global)) (fits : whole ≤ length lines)
    (batches : IsReadTo bytes behind (λ ls. take whole (items_of lines) ++ ls)) (more : IsReadTo behind rest (with_more (drop whole (items_of lines)))) where
  -- nothing more is read, so what is behind the whole batches counts for nothing
  pub none_behind : counted (lines_of rest) ≡ [] → counted (lines_of behind) ≡ []
  none_behind none = read_all behind rest (with_more (drop whole (items_of lines))) more ∙ ap (with_more (drop whole (items_of lines))) none ∙ with_more_none (drop whole (items_of lines))

  pub all_counted : counted (lines_of rest) ≡ [] → (kept : List (Vec ℕ Global)) → kept ≡ take whole lines → items_of kept ≡ counted (lines_of bytes)
  all_counted none kept is =
      ap items_of is ∙ sym (take-map (λ (line : Vec ℕ Global). line.items) whole lines)
      ∙ sym (read_all bytes behind (λ ls. take whole (items_of lines) ++ ls) batches ∙ ap (λ (ls : List (List ℕ)). take whole (items_of lines) ++ ls) (none_behind none) ∙ append-nil (take whole (items_of lines)))

  pub batches_counted : counted (lines_of rest) ≡ [] → IsReadTo bytes behind (λ ls. counted (lines_of bytes) ++ ls)
  batches_counted none =
      let all : take whole (items_of lines) ≡ counted (lines_of bytes) = take-map (λ (line : Vec ℕ Global). line.items) whole lines ∙ all_counted none (take whole lines) refl in
      subst (λ (known : List (List ℕ)). IsReadTo bytes behind (λ ls. known ++ ls)) all batches

  module _ (line : List ℕ) (value : Vec ℕ Global) (is : value.items ≡ line) (pushed : List (Vec ℕ Global)) (are : pushed ≡ lines ++ value ∷ []) where
    items : items_of pushed ≡ items_of lines ++ line ∷ []
    items = ap items_of are ∙ map-append (λ (line : Vec ℕ Global). line.items) lines (value ∷ []) ∙ ap (λ (l : List ℕ). items_of lines ++ l ∷ []) is

    long : length (items_of lines) ≡ length lines
    long = length-map lines (λ (line : Vec ℕ Global). line.items)

    -- a line that ends a batch
    pub batch_ended : IsReadTo rest after (next_of true line) → (n : ℕ) → n ≡ length pushed → IsReadTo bytes after (λ ls. take n (items_of pushed) ++ ls)
    batch_ended next n size =
        let all : take n (items_of pushed) ≡ items_of lines ++ line ∷ [] =
        take_all n (items_of pushed) (omega (arith, size, length-map pushed (λ (line : Vec ℕ Global). line.items))) ∙ items in
        read_on bytes behind after (λ ls. take whole (items_of lines) ++ ls) (λ ls. with_more (drop whole (items_of lines)) (line ∷ ls)) (λ ls. take n (items_of pushed) ++ ls) batches
        (read_on behind rest after (with_more (drop whole (items_of lines))) (next_of true line) (λ ls. with_more (drop whole (items_of lines)) (line ∷ ls)) more next (λ ls. refl))
        (λ ls.
        ap (λ (l : List (List ℕ)). take whole (items_of lines) ++ l) (with_more_end (drop whole (items_of lines)) line ls)
        ∙ sym (append_assoc (take whole (items_of lines)) (drop whole (items_of lines)) (line ∷ ls))
        ∙ ap (λ (l : List (List ℕ)). l ++ line ∷ ls) (take-append-drop whole (items_of lines))
        ∙ sym (append_assoc (items_of lines) (line ∷ []) ls)
        ∙ ap (λ (l : List (List ℕ)). l ++ ls) (sym all))

    pub none_waits : (n : ℕ) → n ≡ length pushed → IsReadTo after after (with_more (drop n (items_of pushed)))
    none_waits n size =
        let none : drop n (items_of pushed) ≡ [] = drop_all n (items_of pushed) (omega (arith, size, length-map pushed (λ (line : Vec ℕ Global). line.items))) in
        read_none after (with_more (drop n (items_of pushed))) (λ ls. ap (λ (l : List (List ℕ)). with_more l ls) none)

    -- a line of a batch that goes on
    pub batches_stay : IsReadTo bytes behind (λ ls. take whole (items_of pushed) ++ ls)
    batches_stay =
        let same : take whole (items_of lines) ≡ take whole (items_of pushed) =
        sym (take-append-le whole (items_of lines) (line ∷ []) (omega (arith, fits, long))) ∙ ap (take whole) (sym items) in
        subst (λ (known : List (List ℕ)). IsReadTo bytes behind (λ ls. known ++ ls)) same batches

    pub batch_goes_on : IsReadTo rest after (next_of false line) → IsReadTo behind after (with_more (drop whole (items_of pushed)))
    batch_goes_on next =
        let waits : drop whole (items_of pushed) ≡ drop whole (items_of lines) ++ line ∷ [] = ap (drop whole) items ∙ drop-append-le whole (items_of lines) (line ∷ []) (omega (arith, fits, long)) in
        read_on behind rest after (with_more (drop whole (items_of lines))) (next_of false line) (with_more (drop whole (items_of pushed))) more next
        (λ ls. sym (with_more_last (drop whole (items_of lines)) line ls) ∙ ap (λ (l : List (List ℕ)). with_more l ls) (sym waits))
