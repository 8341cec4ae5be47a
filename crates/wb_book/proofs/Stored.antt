-- The stored cells of a workbook answer its readers as all its cells do.
use Rattle.std.proofs.Common.{◌≡◌, ℕ, ℤ, Bool, true, false, cond, List, [], ◌∷◌, Option, Some, None, IsSome, refl, sym, ap, subst, ◌∙◌}
use Rattle.std.specs.FinMap.{get, entries, from_entries, get-from_entries, get-retain_keys}
use Rattle.std.specs.FinMap.Entries.{where_key}
use Rattle.std.specs.List.{filter_map, cons_option}
use Rattle.std.specs.Map.{keys_of}
use Rattle.std.specs.Option.{option_map, option_and_then}
use Rattle.selective_undo.proofs.Changes.{same_states}
use Rattle.selective_undo.proofs.Evaluation.{entries-retain_keys}
use Rattle.wb_cells.specs.declared.cells.cell.Cell.{Cell}
use Rattle.wb_cells.specs.declared.cells.cell.Cell.TheVariants.{Object, Shape, In, Member, Mapping, Use, Implicit, Element}
use Rattle.wb_cells.specs.declared.cells.kind.DomainKind.{DomainKind}
use Rattle.wb_cells.specs.declared.cells.kind.DomainKind.TheVariants.{Rectangular, Sparse, Associative}
use Rattle.wb_cells.specs.declared.cells.pattern.Pattern.{Pattern}
use Rattle.wb_cells.specs.declared.cells.pattern.Pattern.TheVariants.{Objects, Members, Uses}
use Rattle.wb_cells.specs.declared.cells.value.Value.{Value}
use Rattle.wb_cells.specs.declared.values.index.Index.{Index}
use Rattle.wb_cells.specs.Cells.{Name, Cells, cell_cmp, cell_order, matches}
use Rattle.wb_cells.specs.Families.{AreNamed}
use Rattle.wb_cells.specs.Locales.{locale_held_by, locale_held}
use Rattle.wb_cells.specs.Readers.{seen, object_of, objects, user_of, users, member_in, indices_of, listed_at, size_at, index_at}
use Rattle.wb_cells.specs.Shapes.{indices}
use Rattle.wb_cells.specs.WellFormed.{IsWellFormed, domain_at, domain_in, ranges_in}
use Rattle.wb_cells.proofs.Families.{cell_named}
use Rattle.wb_book.specs.Joined.{is_stored, joined, answer, stored_in, element_in}
use Rattle.wb_book.specs.Stored.{stored_cells}
use Rattle.wb_book.proofs.Joined.{IsKept, find-lookup, get-joined, not_kept}

-- ---- what stands in a cell

pub get-stored_cells : (s : Cells) (c : Cell) → get (stored_cells s) c ≡ cond (is_stored c) (get s c) None
get-stored_cells s c = get-retain_keys s is_stored c (λ x tie. ap is_stored (sym (cell_order.strict c x tie)))

pub get-stored : (s : Cells) (c : Cell) → is_stored c ≡ true → get (stored_cells s) c ≡ get s c
get-stored s c st = get-stored_cells s c ∙ ap (λ (b : Bool). cond b (get s c) None) st

-- the cells that are kept of a workbook are its stored cells
pub kept_are_stored : {M : Type 0} (cells : List (Cell × Value)) (arrays : List (Name × (List (Index × ℤ) × M))) → IsKept cells arrays →
    from_entries cells ≡ stored_cells (from_entries (joined cells arrays))
kept_are_stored cells arrays kept = same_states cell_order _ _ λ c.
    get-from_entries cell_order.total cells c ∙ find-lookup cells c ∙ by c (is_stored c) refl ∙ sym (get-stored_cells (from_entries (joined cells arrays)) c)
  where
    same_answer : (c : Cell) → is_stored c ≡ true → stored_in cells c ≡ answer (stored_in cells) (element_in arrays) c
    same_answer (Object n) st = refl
    same_answer (Shape n) st = refl
    same_answer (In d i) st = cc
    same_answer (Member d i) st = refl
    same_answer (Mapping n) st = refl
    same_answer (Use d n) st = refl
    same_answer (Implicit n) st = refl
    same_answer (Element a i) st = cc

    by : (c : Cell) (b : Bool) → is_stored c ≡ b → stored_in cells c ≡ cond (is_stored c) (get (from_entries {R = cell_cmp} (joined cells arrays)) c) None
    by c true st = rw st (same_answer c st ∙ sym (get-joined cells arrays kept c))
    by c false st = rw st (not_kept c st cells kept.stored)

-- the objects and users among them have names
pub stored_named : (s : Cells) → IsWellFormed s → AreNamed (stored_cells s)
stored_named s ok c there = cell_named s ok c (by (is_stored c) (subst (λ (o : Option Value). IsSome o) (get-stored_cells s c) there))
  where
    by : (b : Bool) → IsSome (cond b (get s c) None) → IsSome (get s c)
    by true h = h
    by false h = cc

-- ---- looks

-- a pattern that names stored cells alone
abbrev pub NamesStored : Pattern → Type 0
NamesStored p = (c : Cell) → is_stored c ≡ false → matches p c ≡ false

named_twice : (p : Pattern) → NamesStored p → (es : List (Cell × Value)) →
    where_key cell_cmp (matches p) (where_key cell_cmp is_stored es) ≡ where_key cell_cmp (matches p) es
named_twice p named [] = refl
named_twice p named (e ∷ es) = elim (is_stored e.0) as (λ b. is_stored e.0 ≡ b →
    where_key cell_cmp (matches p) (cond b (e ∷ where_key cell_cmp is_stored es) (where_key cell_cmp is_stored es)) ≡ where_key cell_cmp (matches p) (e ∷ es)) [
      | true ↦ λ is. ap (λ xs. cond (matches p e.0) (e ∷ xs) xs) (named_twice p named es)
      | false ↦ λ is. rw (named e.0 is) (named_twice p named es)
    ] refl

pub seen-stored : (s : Cells) (p : Pattern) → NamesStored p → seen (stored_cells s) p ≡ seen s p
seen-stored s p named =
    entries-retain_keys cell_order (stored_cells s) (matches p)
    ∙ ap (where_key cell_cmp (matches p)) (entries-retain_keys cell_order s is_stored)
    ∙ named_twice p named (entries s)
    ∙ sym (entries-retain_keys cell_order s (matches p))

pub objects_stored : NamesStored Objects
objects_stored (In d i) e = refl
objects_stored (Element d i) e = refl
objects_stored (Object d) e = cc
objects_stored (Shape d) e = refl
objects_stored (Member d i) e = refl
objects_stored (Mapping d) e = refl
objects_stored (Use d n) e = refl
objects_stored (Implicit d) e = refl

pub members_stored : (n : Name) → NamesStored (Members n)
members_stored n (In d i) e = refl
members_stored n (Element d i) e = refl
members_stored n (Object d) e = refl
members_stored n (Shape d) e = refl
members_stored n (Member d i) e = cc
members_stored n (Mapping d) e = refl
members_stored n (Use d m) e = refl
members_stored n (Implicit d) e = refl

pub uses_stored : (n : Name) → NamesStored (Uses n)
uses_stored n (In d i) e = refl
uses_stored n (Element d i) e = refl
uses_stored n (Object d) e = refl
uses_stored n (Shape d) e = refl
uses_stored n (Member d i) e = refl
uses_stored n (Mapping d) e = refl
uses_stored n (Use d m) e = cc
uses_stored n (Implicit d) e = refl

-- ---- names

-- a reader that takes nothing of the other cells
abbrev TakesStored : (Cell → Option Name) → Type 0
TakesStored f = (c : Cell) → is_stored c ≡ false → f c ≡ None

taken_twice : (f : Cell → Option Name) → TakesStored f → (es : List (Cell × Value)) →
    filter_map f (keys_of (where_key cell_cmp is_stored es)) ≡ filter_map f (keys_of es)
taken_twice f takes [] = refl
taken_twice f takes (e ∷ es) = elim (is_stored e.0) as (λ b. is_stored e.0 ≡ b →
    filter_map f (keys_of (cond b (e ∷ where_key cell_cmp is_stored es) (where_key cell_cmp is_stored es))) ≡ filter_map f (keys_of (e ∷ es))) [
      | true ↦ λ is. ap (cons_option (f e.0)) (taken_twice f takes es)
      | false ↦ λ is. rw (takes e.0 is) (taken_twice f takes es)
    ] refl

taken : (s : Cells) (f : Cell → Option Name) → TakesStored f → filter_map f (keys_of (entries (stored_cells s))) ≡ filter_map f (keys_of (entries s))
taken s f takes = ap (λ (es : List (Cell × Value)). filter_map f (keys_of es)) (entries-retain_keys cell_order s is_stored) ∙ taken_twice f takes (entries s)

object_taken : TakesStored object_of
object_taken (In d i) e = refl
object_taken (Element d i) e = refl
object_taken (Object d) e = cc
object_taken (Shape d) e = refl
object_taken (Member d i) e = refl
object_taken (Mapping d) e = refl
object_taken (Use d n) e = refl
object_taken (Implicit d) e = refl

user_taken : (n : Name) → TakesStored (user_of n)
user_taken n (In d i) e = refl
user_taken n (Element d i) e = refl
user_taken n (Object d) e = refl
user_taken n (Shape d) e = refl
user_taken n (Member d i) e = refl
user_taken n (Mapping d) e = refl
user_taken n (Use d m) e = cc
user_taken n (Implicit d) e = refl

pub objects-stored : (s : Cells) → objects (stored_cells s) ≡ objects s
objects-stored s = taken s object_of object_taken

pub users-stored : (s : Cells) (d : Name) → users (stored_cells s) d ≡ users s d
users-stored s d = taken s (user_of d) (user_taken d)

-- ---- indices and locales

domain-stored : (s : Cells) (d : Name) → domain_at (stored_cells s) d ≡ domain_at s d
domain-stored s d = ap domain_in (get-stored s (Object d) refl)

indices-stored : (s : Cells) (d : Name) (kind : DomainKind) → indices_of (stored_cells s) d kind ≡ indices_of s d kind
indices-stored s d (Rectangular rank) = ap (λ (o : Option Value). option_map indices (ranges_in o)) (get-stored s (Shape d) refl)
indices-stored s d (Sparse parent rank) = ap (λ xs. Some (filter_map member_in xs)) (seen-stored s (Members d) (members_stored d))
indices-stored s d (Associative type) = ap (λ xs. Some (filter_map member_in xs)) (seen-stored s (Members d) (members_stored d))

-- what is asked of each kind of domain
by_kind : {A : Type 0} (f g : DomainKind → Option A) (o p : Option DomainKind) → o ≡ p → ((kind : DomainKind) → f kind ≡ g kind) →
    option_and_then f o ≡ option_and_then g p
by_kind f g o None is same = rw is refl
by_kind f g o (Some kind) is same = rw is (same kind)

listed-stored : (s : Cells) (d : Name) → listed_at (stored_cells s) d ≡ listed_at s d
listed-stored s d = by_kind (indices_of (stored_cells s) d) (indices_of s d) (domain_at (stored_cells s) d) (domain_at s d) (domain-stored s d)
    (indices-stored s d)

pub size-stored : (s : Cells) (d : Name) → size_at (stored_cells s) d ≡ size_at s d
size-stored s d = rw (listed-stored s d) refl

pub index-stored : (s : Cells) (d : Name) (p : ℕ) → index_at (stored_cells s) d p ≡ index_at s d p
index-stored s d p = rw (listed-stored s d) refl

held-stored : (s : Cells) (d : Name) (i : Index) (kind : DomainKind) → locale_held_by (stored_cells s) d i kind ≡ locale_held_by s d i kind
held-stored s d i (Rectangular rank) = rw (get-stored s (Shape d) refl, get-stored s (Mapping d) refl) refl
held-stored s d i (Sparse parent rank) = rw (get-stored s (Member d i) refl, get-stored s (Mapping parent) refl) refl
held-stored s d i (Associative type) = rw (get-stored s (Member d i) refl) refl

pub locale-stored : (s : Cells) (d : Name) (i : Index) → locale_held (stored_cells s) d i ≡ locale_held s d i
locale-stored s d i = by_kind (locale_held_by (stored_cells s) d i) (locale_held_by s d i) (domain_at (stored_cells s) d) (domain_at s d) (domain-stored s d)
    (held-stored s d i)
