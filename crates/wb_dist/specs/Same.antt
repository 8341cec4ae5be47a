-- equality of mappings
use Rattle.std.proofs.Common.{◌≡◌, Bool, true, false, ◌&&◌, ℤ, List, int_eq, refl, sym, ap}
use Rattle.std.specs.Bool.{Decides}
use Rattle.std.specs.Cmp.{IsEquivalence}
use Rattle.std.specs.Cmp.Lexicographic.{pointwise}
use Rattle.std.proofs.lemmas.Bool.Decides.{Decides-int_eq, Decides-and, Decides-like, same_from_decides}
use Rattle.std.proofs.lemmas.Slice.Eq.{slice_eq-Decides}
use Rattle.wb_dist.specs.Maps.{BlockMap, CyclicMap, BlockCyclicMap, LayoutMap, whole, block, cyclic, block_cyclic}

abbrev pub same_indices : List ℤ → List ℤ → Bool
same_indices xs ys = pointwise int_eq xs ys

abbrev pub same_box : List (List ℤ) → List (List ℤ) → Bool
same_box xs ys = pointwise same_indices xs ys

abbrev pub same_block : BlockMap → BlockMap → Bool
same_block a b = same_box a.box b.box && same_indices a.grid b.grid

abbrev pub same_cyclic : CyclicMap → CyclicMap → Bool
same_cyclic a b = same_indices a.start b.start && same_indices a.grid b.grid

abbrev pub same_block_cyclic : BlockCyclicMap → BlockCyclicMap → Bool
same_block_cyclic a b = same_indices a.start b.start && (same_indices a.size b.size && same_indices a.grid b.grid)

abbrev pub same_layout : LayoutMap → LayoutMap → Bool
same_layout whole whole = true
same_layout (block a) (block b) = same_block a b
same_layout (cyclic a) (cyclic b) = same_cyclic a b
same_layout (block_cyclic a) (block_cyclic b) = same_block_cyclic a b
same_layout _ _ = false

-- ---- each holds exactly of equal ones

pub same_indices-exact : (xs ys : List ℤ) → Decides (same_indices xs ys) (xs ≡ ys)
same_indices-exact xs ys = slice_eq-Decides Decides-int_eq xs ys (same_indices xs ys) refl

pub same_box-exact : (xs ys : List (List ℤ)) → Decides (same_box xs ys) (xs ≡ ys)
same_box-exact xs ys = slice_eq-Decides same_indices-exact xs ys (same_box xs ys) refl

pub same_block-exact : (a b : BlockMap) → Decides (same_block a b) (a ≡ b)
same_block-exact a b =
    Decides-like {P = (a.box ≡ b.box) × (a.grid ≡ b.grid)} {Q = a ≡ b} (same_block a b) (λ h. λ i. record { box = h.0 i; grid = h.1 i })
    (λ e. (ap (λ (m : BlockMap). m.box) e, ap (λ (m : BlockMap). m.grid) e))
    (Decides-and _ _ (same_box-exact a.box b.box) (same_indices-exact a.grid b.grid))

pub same_cyclic-exact : (a b : CyclicMap) → Decides (same_cyclic a b) (a ≡ b)
same_cyclic-exact a b =
    Decides-like {P = (a.start ≡ b.start) × (a.grid ≡ b.grid)} {Q = a ≡ b} (same_cyclic a b) (λ h. λ i. record { start = h.0 i; grid = h.1 i })
    (λ e. (ap (λ (m : CyclicMap). m.start) e, ap (λ (m : CyclicMap). m.grid) e))
    (Decides-and _ _ (same_indices-exact a.start b.start) (same_indices-exact a.grid b.grid))

pub same_block_cyclic-exact : (a b : BlockCyclicMap) → Decides (same_block_cyclic a b) (a ≡ b)
same_block_cyclic-exact a b =
    Decides-like {P = (a.start ≡ b.start) × ((a.size ≡ b.size) × (a.grid ≡ b.grid))} {Q = a ≡ b} (same_block_cyclic a b)
    (λ h. λ i. record { start = h.0 i; size = h.1.0 i; grid = h.1.1 i })
    (λ e. (ap (λ (m : BlockCyclicMap). m.start) e, (ap (λ (m : BlockCyclicMap). m.size) e, ap (λ (m : BlockCyclicMap). m.grid) e)))
    (Decides-and _ _ (same_indices-exact a.start b.start) (Decides-and _ _ (same_indices-exact a.size b.size) (same_indices-exact a.grid b.grid)))

differs : (a b : LayoutMap) → (a ≡ b → ⊥) → Decides false (a ≡ b)
differs a b n = (λ h. absurd (cc), λ e. absurd (n e))

pub same_layout-exact : (a b : LayoutMap) → Decides (same_layout a b) (a ≡ b)
same_layout-exact whole whole = (λ h. refl, λ e. refl)
same_layout-exact (block a) (block b) = Decides-like {P = a ≡ b} {Q = block a ≡ block b} (same_block a b) (λ e. ap block e) (λ e. cc) (same_block-exact a b)
same_layout-exact (cyclic a) (cyclic b) = Decides-like {P = a ≡ b} {Q = cyclic a ≡ cyclic b} (same_cyclic a b) (λ e. ap cyclic e) (λ e. cc)
    (same_cyclic-exact a b)
same_layout-exact (block_cyclic a) (block_cyclic b) = Decides-like {P = a ≡ b} {Q = block_cyclic a ≡ block_cyclic b} (same_block_cyclic a b)
    (λ e. ap block_cyclic e) (λ e. cc) (same_block_cyclic-exact a b)
same_layout-exact whole (block b) = differs whole (block b) (λ e. cc)
same_layout-exact whole (cyclic b) = differs whole (cyclic b) (λ e. cc)
same_layout-exact whole (block_cyclic b) = differs whole (block_cyclic b) (λ e. cc)
same_layout-exact (block a) whole = differs (block a) whole (λ e. cc)
same_layout-exact (block a) (cyclic b) = differs (block a) (cyclic b) (λ e. cc)
same_layout-exact (block a) (block_cyclic b) = differs (block a) (block_cyclic b) (λ e. cc)
same_layout-exact (cyclic a) whole = differs (cyclic a) whole (λ e. cc)
same_layout-exact (cyclic a) (block b) = differs (cyclic a) (block b) (λ e. cc)
same_layout-exact (cyclic a) (block_cyclic b) = differs (cyclic a) (block_cyclic b) (λ e. cc)
same_layout-exact (block_cyclic a) whole = differs (block_cyclic a) whole (λ e. cc)
same_layout-exact (block_cyclic a) (block b) = differs (block_cyclic a) (block b) (λ e. cc)
same_layout-exact (block_cyclic a) (cyclic b) = differs (block_cyclic a) (cyclic b) (λ e. cc)

-- ---- and so each is an equivalence

pub equivalence_from_exact : {K : Type 0} (E : K → K → Bool) → ((x y : K) → Decides (E x y) (x ≡ y)) → IsEquivalence E
equivalence_from_exact E exact = record {
  refl = λ x. (exact x x).1 refl;
  symm = λ x y. same_from_decides (E x y) (E y x) (exact x y) (Decides-like (E y x) (λ e. sym e) (λ e. sym e) (exact y x));
  congr = λ x y z h. ap (λ v. E v z) ((exact x y).0 h);
}
