-- The texts of mappings are read in one way.
use Rattle.std.proofs.Common.{◌≡◌, ℕ, ℤ, List, ◌++◌, codes, refl, sym, ap₂, ◌∙◌, append_assoc}
use Rattle.std.proofs.lemmas.List.{append_cancel_left}
use Rattle.wb_dist.specs.Maps.{LayoutMap, BlockMap, CyclicMap, BlockCyclicMap, whole, block, cyclic, block_cyclic}
use Rattle.wb_literals.proofs.DigitsBack.{EndsDigits}
use Rattle.wb_text.specs.Literals.{rectangle_text, point_text, integers_text, last_grid_text, mapping_text}
use Rattle.wb_text.proofs.Readable.{IsRead, Each, Any, tail_same, other_first}
use Rattle.wb_text.proofs.ReadIndices.{AreWithin, IsPoint, integers_read, point_read}
use Rattle.wb_text.proofs.ReadRanges.{IsSpelled, rectangle_read}

-- a mapping of which each part may be written
abbrev pub IsMapped : LayoutMap → Type 0
IsMapped whole = Unit {0}
IsMapped (block m) = Each IsSpelled m.box × AreWithin m.grid
IsMapped (cyclic m) = IsPoint m.start × AreWithin m.grid
IsMapped (block_cyclic m) = IsPoint m.start × IsPoint m.size × AreWithin m.grid

-- after a word, and before what follows
pub after_word : (word a b r q : List ℕ) → (word ++ a) ++ r ≡ (word ++ b) ++ q → a ++ r ≡ b ++ q
after_word word a b r q e = append_cancel_left word _ _ (sym (append_assoc word a r) ∙ e ∙ append_assoc word b q)

-- a part that is read, and before what follows
pub part_read : {X : Type 0} (Ends : List ℕ → Type 0) (Is : X → Type 0) (text : X → List ℕ) → IsRead Ends Is text
    → (x y : X) (a b r q : List ℕ) → Is x → Is y → Ends (a ++ r) → Ends (b ++ q) → (text x ++ a) ++ r ≡ (text y ++ b) ++ q → (x ≡ y) × (a ++ r ≡ b ++ q)
part_read Ends Is text read x y a b r q h k i j e = read x y (a ++ r) (b ++ q) h k i j (sym (append_assoc (text x) a r) ∙ e ∙ append_assoc (text y) b q)

last_read : (g h : List ℤ) (r q : List ℕ) → AreWithin g → AreWithin h → last_grid_text g ++ r ≡ last_grid_text h ++ q → (g ≡ h) × (r ≡ q)
last_read g h r q i j e =
    let one = part_read Any AreWithin integers_text integers_read g h (codes ")") (codes ")") r q i j tt tt
    (after_word (codes ", ") (integers_text g ++ codes ")") (integers_text h ++ codes ")") r q e) in
    (one.0, tail_same 41 41 _ _ one.1)

block_read : (m n : BlockMap) (r q : List ℕ) → IsMapped (block m) → IsMapped (block n) → mapping_text (block m) ++ r ≡ mapping_text (block n) ++ q →
    (block m ≡ block n) × (r ≡ q)
block_read m n r q h k e =
    let box = part_read Any (Each IsSpelled) rectangle_text rectangle_read m.box n.box (last_grid_text m.grid) (last_grid_text n.grid) r q h.0 k.0 tt tt
    (after_word (codes "blockDist(") (rectangle_text m.box ++ last_grid_text m.grid) (rectangle_text n.box ++ last_grid_text n.grid) r q e) in
    let grid = last_read m.grid n.grid r q h.1 k.1 box.1 in
    (ap₂ (λ b g. block (record { box = b; grid = g })) box.0 grid.0, grid.1)

cyclic_read : (m n : CyclicMap) (r q : List ℕ) → IsMapped (cyclic m) → IsMapped (cyclic n) → mapping_text (cyclic m) ++ r ≡ mapping_text (cyclic n) ++ q →
    (cyclic m ≡ cyclic n) × (r ≡ q)
cyclic_read m n r q h k e =
    let start = part_read EndsDigits IsPoint point_text point_read m.start n.start (last_grid_text m.grid) (last_grid_text n.grid) r q h.0 k.0 refl refl
    (after_word (codes "cyclicDist(") (point_text m.start ++ last_grid_text m.grid) (point_text n.start ++ last_grid_text n.grid) r q e) in
    let grid = last_read m.grid n.grid r q h.1 k.1 start.1 in
    (ap₂ (λ s g. cyclic (record { start = s; grid = g })) start.0 grid.0, grid.1)

block_cyclic_read : (m n : BlockCyclicMap) (r q : List ℕ) → IsMapped (block_cyclic m) → IsMapped (block_cyclic n) →
    mapping_text (block_cyclic m) ++ r ≡ mapping_text (block_cyclic n) ++ q → (block_cyclic m ≡ block_cyclic n) × (r ≡ q)
block_cyclic_read m n r q h k e =
    let more : BlockCyclicMap → List ℕ = λ x. codes ", " ++ (point_text x.size ++ last_grid_text x.grid) in
    let start = part_read EndsDigits IsPoint point_text point_read m.start n.start (more m) (more n) r q h.0 k.0 refl refl
    (after_word (codes "blockCycDist(") (point_text m.start ++ more m) (point_text n.start ++ more n) r q e) in
    let size = part_read EndsDigits IsPoint point_text point_read m.size n.size (last_grid_text m.grid) (last_grid_text n.grid) r q h.1 k.1 refl refl
    (after_word (codes ", ") (point_text m.size ++ last_grid_text m.grid) (point_text n.size ++ last_grid_text n.grid) r q start.1) in
    let grid = last_read m.grid n.grid r q h.2 k.2 size.1 in
    let one = start.0 in let two = size.0 in let three = grid.0 in (
      ap₂ (λ (s : List ℤ) (p : List ℤ × List ℤ). block_cyclic (record { start = s; size = p.0; grid = p.1 })) one (ap₂ (λ (a b : List ℤ). (a, b)) two three),
      grid.1,
    )

-- distributions are told apart by their first bytes
pub mapping_read : IsRead Any IsMapped mapping_text
mapping_read whole whole r q h k a b e = (refl, append_cancel_left (codes "none") r q e)
mapping_read whole (block m) r q h k a b e = other_first 110 98 _ _ refl e
mapping_read whole (cyclic m) r q h k a b e = other_first 110 99 _ _ refl e
mapping_read whole (block_cyclic m) r q h k a b e = other_first 110 98 _ _ refl e
mapping_read (block m) whole r q h k a b e = other_first 98 110 _ _ refl e
mapping_read (block m) (block n) r q h k a b e = block_read m n r q h k e
mapping_read (block m) (cyclic n) r q h k a b e = other_first 98 99 _ _ refl e
mapping_read (block m) (block_cyclic n) r q h k a b e = other_first 68 67 _ _ refl (append_cancel_left (codes "block") _ _ e)
mapping_read (cyclic m) whole r q h k a b e = other_first 99 110 _ _ refl e
mapping_read (cyclic m) (block n) r q h k a b e = other_first 99 98 _ _ refl e
mapping_read (cyclic m) (cyclic n) r q h k a b e = cyclic_read m n r q h k e
mapping_read (cyclic m) (block_cyclic n) r q h k a b e = other_first 99 98 _ _ refl e
mapping_read (block_cyclic m) whole r q h k a b e = other_first 98 110 _ _ refl e
mapping_read (block_cyclic m) (block n) r q h k a b e = other_first 67 68 _ _ refl (append_cancel_left (codes "block") _ _ e)
mapping_read (block_cyclic m) (cyclic n) r q h k a b e = other_first 98 99 _ _ refl e
mapping_read (block_cyclic m) (block_cyclic n) r q h k a b e = block_cyclic_read m n r q h k e
