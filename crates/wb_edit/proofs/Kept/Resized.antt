-- Indices that leave a sparse or associative domain, and others that come to it, keep a workbook well formed.
use Rattle.std.proofs.Common.{◌≡◌, ℕ, zero, suc, ◌<◌, Bool, true, false, List, [], ◌∷◌, map, length, get_or, Option, Some, None, is_some, Ok, ℤ, refl, sym, ap}
use Rattle.std.proofs.Common.{subst, ◌∙◌, arith}
use Rattle.std.proofs.lemmas.Simd.{map-map}
use Rattle.std.specs.FinMap.{get}
use Rattle.std.specs.List.{AllByRecursion, Contains, list_all, zip}
use Rattle.selective_undo.specs.Edit.{write}
use Rattle.wb_cells.specs.declared.cells.cell.Cell.{Cell}
use Rattle.wb_cells.specs.declared.cells.cell.Cell.TheVariants.{Shape, In, Implicit}
use Rattle.wb_cells.specs.declared.cells.kind.DomainKind.{DomainKind}
use Rattle.wb_cells.specs.declared.cells.kind.DomainKind.TheVariants.{Rectangular, Sparse, Associative}
use Rattle.wb_cells.specs.declared.cells.kind.Kind.{Kind}
use Rattle.wb_cells.specs.declared.cells.kind.Kind.TheVariants.{Associative as over_associative}
use Rattle.wb_cells.specs.declared.cells.value.Value.TheVariants.{Present}
use Rattle.wb_cells.specs.declared.values.index.Index.{Index}
use Rattle.wb_cells.specs.Cells.{Name, Cells}
use Rattle.wb_cells.specs.Kinds.{kind_of, is_key, IsIndex}
use Rattle.wb_cells.specs.WellFormed.{IsWellFormed, MayHave, domain_at, present_if, inside_of, ranges_in}
use Rattle.wb_reshape.specs.Laws.{AreFills, HasMembers}
use Rattle.wb_reshape.specs.Resized.{resized_cells}
use Rattle.wb_reshape.proofs.Fills.{arrays, zeros_fill, implicits_fill}
use Rattle.wb_reshape.proofs.Sets.{keeps_sets}
use Rattle.wb_edit.specs.Commands.{resized}
use Rattle.wb_edit.specs.Trees.{Tree, judged}
use Rattle.wb_edit.specs.Resizing.{has_members, inside_if, all_inside, all_in_parent, number_or_zero, defaults, fills}
use Rattle.wb_edit.specs.Looks.{fits}
use Rattle.wb_edit.proofs.Kept.Fill.{keeps_all, first_and}
use Rattle.wb_edit.proofs.Kept.Steps.{Keeps, keeps_judged, passed_is}

-- ---- the arrays over a domain, with numbers

-- a look at what new indices bring goes on with numbers for the arrays over the domain
keeps_defaults : (s : Cells) (d : Name) (kind : DomainKind) (next : List (Name × ℤ) → Tree) → IsWellFormed s → domain_at s d ≡ Some kind →
    ((fs : List (Name × ℤ)) → AreFills s d fs → Keeps (next fs) s) → Keeps (defaults kind (arrays s d) next) s
keeps_defaults s d (Rectangular rank) next h there kept = kept _ (zeros_fill s d)
keeps_defaults s d (Associative type) next h there kept = kept _ (zeros_fill s d)
keeps_defaults s d (Sparse parent rank) next h there kept =
    let ns : List Name = arrays s d in
    keeps_all s (map Implicit ns) (λ vs. next (zip ns (map number_or_zero vs))) (
    subst (λ vs. Keeps (next (zip ns (map number_or_zero vs))) s) (sym (map-map (get s) Implicit ns)) (
    kept _ (implicits_fill s d parent rank h there)))

-- ---- indices that a domain may have

pub members_of : (kind : DomainKind) (x : Unit {0}) → has_members kind ≡ Ok x → HasMembers kind
members_of (Rectangular rank) x e = cc
members_of (Sparse parent rank) x e = tt
members_of (Associative type) x e = tt

found_inside : (b : Bool) (x : Unit {0}) → inside_if b ≡ Ok x → b ≡ true
found_inside true x e = refl
found_inside false x e = cc

-- what the test on new indices found
abbrev AreInside : Cells → DomainKind → List Index → Type 0
AreInside s (Rectangular rank) is = Unit {0}
AreInside s (Sparse parent rank) is = list_all is_some (map (get s) (map (In parent) is)) ≡ true
AreInside s (Associative type) is = Unit {0}

keeps_inside : (s : Cells) (kind : DomainKind) (is : List Index) (next : Unit {0} → Tree) → IsWellFormed s →
    ((x : Unit {0}) → AreInside s kind is → Keeps (next x) s) → Keeps (all_in_parent kind is next) s
keeps_inside s (Rectangular rank) is next h kept = kept tt tt
keeps_inside s (Associative type) is next h kept = kept tt tt
keeps_inside s (Sparse parent rank) is next h kept =
    let cs : List Cell = map (In parent) is in
    keeps_all s cs (λ vs. judged (all_inside vs) next) (
    keeps_judged s (all_inside (map (get s) cs)) next h (λ x ok. kept x (found_inside _ x ok)))

-- what is asked of an index that comes to a domain, besides that it is in the parent
abbrev pub IsKeyOf : DomainKind → Index → Type 0
IsKeyOf (Rectangular rank) i = Unit {0}
IsKeyOf (Sparse parent rank) i = Unit {0}
IsKeyOf (Associative type) i = (is_key (over_associative type) i ≡ true) × IsIndex i

pub key_of : (kind : DomainKind) (i : Index) → is_key (kind_of kind) i ≡ true → IsIndex i → IsKeyOf kind i
key_of (Rectangular rank) i fitting valid = tt
key_of (Sparse parent rank) i fitting valid = tt
key_of (Associative type) i fitting valid = (fitting, valid)

was_present : (b : Bool) → is_some (present_if b) ≡ true → present_if b ≡ Some Present
was_present true e = refl
was_present false e = cc

there_inside : (o : Option (List (List ℤ))) (i : Index) → is_some (inside_of o i) ≡ true → inside_of o i ≡ Some Present
there_inside (Some rs) i e = was_present _ e
there_inside None i e = cc

-- the indices that were found are in the parent
all_present : (s : Cells) (parent : Name) (is : List Index) → IsWellFormed s → list_all is_some (map (get s) (map (In parent) is)) ≡ true →
    AllByRecursion (λ i. get s (In parent i) ≡ Some Present) is
all_present s parent [] h within = tt
all_present s parent (i ∷ is) h within =
    let both = first_and (is_some (get s (In parent i))) (list_all is_some (map (get s) (map (In parent) is))) within in
    (h.insides parent i ∙ there_inside (ranges_in (get s (Shape parent))) i (ap is_some (sym (h.insides parent i)) ∙ both.0), all_present s parent is h both.1)

-- what holds of each element holds of one that is among them
pub holds_at : {X : Type 0} (P : X → Type 0) (xs : List X) (x : X) → AllByRecursion P xs → Contains xs x → P x
holds_at P xs x all there = at xs there.0 all there.1 there.2
  where
    at : (ys : List _) (k : ℕ) → AllByRecursion P ys → k < length ys → get_or ys k x ≡ x → P x
    at [] k h low e = absurd (omega (arith, low))
    at (y ∷ ys) zero h low e = subst P e h.0
    at (y ∷ ys) (suc k) h low e = at ys k h.1 (omega (arith, low)) e

may_have : (s : Cells) (kind : DomainKind) (is : List Index) (i : Index) → IsWellFormed s → HasMembers kind → AreInside s kind is → Contains is i →
    IsKeyOf kind i → MayHave s (Some kind) i
may_have s (Rectangular rank) is i h set within new keyed = absurd set
may_have s (Sparse parent rank) is i h set within new keyed = holds_at (λ j. get s (In parent j) ≡ Some Present) is i (all_present s parent is h within) new
may_have s (Associative type) is i h set within new keyed = keyed

-- indices leave, and others come that are among the new ones
pub resized_kept : (s : Cells) (d : Name) (kind : DomainKind) (new leaving coming : List Index) → IsWellFormed s → domain_at s d ≡ Some kind →
    HasMembers kind → ((i : Index) → Contains coming i → Contains new i × IsKeyOf kind i)
    → Keeps (resized d kind new leaving coming) s
resized_kept s d kind new leaving coming h there set come =
    let last : List (Name × ℤ) → Tree = λ fs. write (resized_cells (kind_of kind) d fs leaving coming) in
    keeps_inside s kind new (λ x. fills d kind last) h (λ x within.
    keeps_defaults s d kind last h there (λ fs are.
    keeps_sets s d kind fs leaving coming h there set are (λ i comes. may_have s kind new i h set within (come i comes).0 (come i comes).1)))

pub fits_is : (kind : Kind) (i : Index) (x : Unit {0}) → fits kind i ≡ Ok x → is_key kind i ≡ true
fits_is kind i x e = passed_is (is_key kind i) x e
