-- What a book lends of an array on a locale is the piece that is to be answered.
use Rattle.std.proofs.Common.{◌≡◌, ℕ, ◌==◌, nat_lt, ℤ, Bool, true, false, List, filter, Option, Some, None, option_map, option_and_then, unwrap_or, Result, Ok}
use Rattle.std.proofs.Common.{Err, refl, sym, ap, subst, ◌∙◌, if◌then◌else◌}
use Rattle.std.specs.FinMap.{get}
use Rattle.std.proofs.lemmas.List.Elements.{filter_agree}
use Rattle.wb_dist.specs.Maps.{LayoutMap, whole, locale_count_of}
use Rattle.wb_cells.specs.declared.cells.cell.Cell.TheVariants.{Object, Mapping}
use Rattle.wb_cells.specs.declared.cells.kind.DomainKind.{DomainKind}
use Rattle.wb_cells.specs.declared.cells.kind.DomainKind.TheVariants.{Rectangular, Sparse, Associative}
use Rattle.wb_cells.specs.declared.cells.kind.KeyType.TheVariants.{Int, Text}
use Rattle.wb_cells.specs.declared.cells.kind.Kind.{Kind}
use Rattle.wb_cells.specs.declared.cells.value.Value.{Value}
use Rattle.wb_cells.specs.declared.cells.value.Value.TheVariants.{Domain, Array, Ranges, Mapping as MappingIs, Present, Bound, Number}
use Rattle.wb_cells.specs.declared.values.index.Index.{Index}
use Rattle.wb_cells.specs.declared.values.index.Index.TheVariants.{Point, Text as TextIs}
use Rattle.wb_cells.specs.Cells.{Name, Cells}
use Rattle.wb_cells.specs.Kinds.{kind_of}
use Rattle.wb_cells.specs.Layouts.{locale_in}
use Rattle.wb_cells.specs.Locales.{mapping_in}
use Rattle.wb_cells.specs.Readers.{elements}
use Rattle.wb_cells.specs.WellFormed.{IsWellFormed, HasMapping, domain_at, domain_in, array_in}
use Rattle.wb_cells.specs.declared.refusal.WhyRefused as why
use Rattle.wb_cells.specs.declared.refusal.WhyRefused.TheVariants.{OutOfDomain}
use Rattle.wb_edit.specs.Looks.{domain_kind, array_kind}
use Rattle.wb_book.specs.Piecewise.Lent.{piece_in}
use Rattle.wb_book.specs.Shelf.{mapping_of, lies_by, piece_at, piece_by}
use Rattle.wb_history.specs.Pieces.{mapped_as, piece_from, piece_of}

-- the elements on a locale, by the mapping of a domain, if it has one
abbrev by_mapped : Option LayoutMap → List (Index × ℤ) → ℕ → Option (List (Index × ℤ))
by_mapped o es l =
    if nat_lt l (unwrap_or (option_map locale_count_of o) 1)
    then Some (filter (λ x. unwrap_or (option_and_then (λ m. locale_in m x.0) o) 0 == l) es) else None

on_whole : (x : Index × ℤ) → 0 ≡ unwrap_or (locale_in whole x.0) 0
on_whole (Point is, z) = refl
on_whole (TextIs t, z) = refl

-- where there is no mapping, all lie on locale 0
unmapped : (es : List (Index × ℤ)) (l : ℕ) → by_mapped None es l ≡ piece_in whole es l
unmapped es l =
    ap (λ (xs : List (Index × ℤ)). if nat_lt l 1 then Some xs else None)
    (filter_agree (λ x. 0 == l) (λ x. unwrap_or (locale_in whole x.0) 0 == l) (λ x. ap (λ (n : ℕ). n == l) (on_whole x)) es)

mapped : (o : Option LayoutMap) (rank l : ℕ) (es : List (Index × ℤ)) (m : LayoutMap) → o ≡ Some m →
    piece_by (option_map (λ n. (n, rank)) o) es l ≡ by_mapped o es l
mapped None rank l es m there = cc
mapped (Some n) rank l es m there = refl

-- a rectangular domain has a mapping
has_mapping : (s : Cells) (d : Name) (rank : ℕ) → IsWellFormed s → domain_at s d ≡ Some (Rectangular rank) →
    (m : LayoutMap) × (mapping_in (get s (Mapping d)) ≡ Some m)
has_mapping s d rank formed is =
    let has : HasMapping (Some (Rectangular rank)) (get s (Mapping d)) =
    subst (λ (k : Option DomainKind). HasMapping k (get s (Mapping d))) is (formed.mappings d) in
    (has.0, ap mapping_in has.1)

-- an associative one has none
no_mapping : (s : Cells) (d : Name) (k : DomainKind) → ((v : Option Value) → HasMapping (Some k) v → v ≡ None) → IsWellFormed s → domain_at s d ≡ Some k →
    get s (Mapping d) ≡ None
no_mapping s d k none formed is = none (get s (Mapping d)) (subst (λ (o : Option DomainKind). HasMapping o (get s (Mapping d))) is (formed.mappings d))

-- the piece by the mapping of a domain of a kind
of_domain : (s : Cells) (d : Name) (k : Kind) (l : ℕ) (es : List (Index × ℤ)) (v : Option Value) → IsWellFormed s → get s (Object d) ≡ v →
    option_map kind_of (domain_in v) ≡ Some k →
    piece_by (mapping_of s d (domain_in v)) es l ≡ by_mapped (mapping_in (get s (Mapping (mapped_as d (domain_kind v))))) es l
of_domain s d k l es None formed is there = cc
of_domain s d k l es (Some (Domain (Rectangular rank))) formed is there =
    let has = has_mapping s d rank formed (ap domain_in is) in
    mapped (mapping_in (get s (Mapping d))) rank l es has.0 has.1
of_domain s d k l es (Some (Domain (Sparse parent rank))) formed is there =
    let has = has_mapping s parent rank formed (formed.objects d (Domain (Sparse parent rank)) is) in
    mapped (mapping_in (get s (Mapping parent))) rank l es has.0 has.1
of_domain s d k l es (Some (Domain (Associative Int))) formed is there =
    let none = no_mapping s d (Associative Int) (λ v h. h) formed (ap domain_in is) in
    sym (ap (λ (o : Option Value). by_mapped (mapping_in o) es l) none ∙ unmapped es l)
of_domain s d k l es (Some (Domain (Associative Text))) formed is there =
    let none = no_mapping s d (Associative Text) (λ v h. h) formed (ap domain_in is) in
    sym (ap (λ (o : Option Value). by_mapped (mapping_in o) es l) none ∙ unmapped es l)
of_domain s d k l es (Some (Array e kind)) formed is there = cc
of_domain s d k l es (Some (Ranges rs)) formed is there = cc
of_domain s d k l es (Some (MappingIs m)) formed is there = cc
of_domain s d k l es (Some Present) formed is there = cc
of_domain s d k l es (Some (Bound b)) formed is there = cc
of_domain s d k l es (Some (Number z)) formed is there = cc

-- a piece, or that there is no such locale
abbrev pub or_outside : Option (List (Index × ℤ)) → Result (List (Index × ℤ)) why.WhyRefused
or_outside (Some xs) = Ok xs
or_outside None = Err OutOfDomain

outside_if : (b : Bool) (xs : List (Index × ℤ)) → or_outside (if b then Some xs else None) ≡ (if b then Ok xs else Err OutOfDomain)
outside_if true xs = refl
outside_if false xs = refl

of_array : (s : Cells) (a : Name) (l : ℕ) (v : Option Value) (p : Name × Kind) → IsWellFormed s → get s (Object a) ≡ v → array_kind v ≡ Ok p →
    piece_from s a l (array_kind v) ≡ or_outside (piece_by (lies_by s (array_in v)) (elements s a) l)
of_array s a l None p formed is there = cc
of_array s a l (Some (Array d k)) p formed is there =
    let es = elements s a in
    let o = mapping_in (get s (Mapping (mapped_as d (domain_kind (get s (Object d)))))) in
    let same = of_domain s d k l es (get s (Object d)) formed refl (formed.objects a (Array d k) is) in
    sym (ap or_outside same ∙ outside_if (nat_lt l (unwrap_or (option_map locale_count_of o) 1))
    (filter (λ x. unwrap_or (option_and_then (λ m. locale_in m x.0) o) 0 == l) es))
of_array s a l (Some (Domain kind)) p formed is there = cc
of_array s a l (Some (Ranges rs)) p formed is there = cc
of_array s a l (Some (MappingIs m)) p formed is there = cc
of_array s a l (Some Present) p formed is there = cc
of_array s a l (Some (Bound b)) p formed is there = cc
of_array s a l (Some (Number z)) p formed is there = cc

-- of an array, the piece that is to be answered is what is lent, and none where nothing is
pub piece_is_lent : (s : Cells) (a : Name) (l : ℕ) (p : Name × Kind) → IsWellFormed s → array_kind (get s (Object a)) ≡ Ok p →
    piece_of s a l ≡ or_outside (piece_at s a l)
piece_is_lent s a l p formed there = of_array s a l (get s (Object a)) p formed refl there
