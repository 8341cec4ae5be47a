-- Indices: points and labels among them, and no point is a label.
use Rattle.std.proofs.Common.{◌≡◌, ℕ, ◌<◌, ◌≤◌, true, false, true≢false, List, length, map, get_or, sym, ap, ◌∙◌}
use Rattle.std.proofs.lemmas.Cmp.{eq_by_cmp_equiv}
use Rattle.std.proofs.lemmas.List.Folds.{list_any_at}
use Rattle.std.specs.List.{list_any}
use Rattle.wb_cells.specs.declared.values.index.Index.{Index}
use Rattle.wb_cells.specs.declared.values.index.Index.TheVariants as i
use Rattle.wb_cells.specs.Cells.{is_same_index}
use Rattle.wb_footprints.specs.Indices.{in_indices}
use Rattle.wb_footprints.specs.Keys.{key_of, text_key, index_key}
use Rattle.wb_footprints.specs.Points.{Coordinates, in_points}
use Rattle.wb_footprints.specs.Texts.{Text, in_texts}
use Rattle.wb_footprints.proofs.InBlocks.{points_total}
use Rattle.wb_footprints.proofs.InTexts.{texts_total}
use Rattle.wb_footprints.proofs.Meeting.{any_like, any_map, any_none}

itself : (x : Index) → is_same_index x x ≡ true
itself (i.Point p) = (eq_by_cmp_equiv points_total).refl p
itself (i.Text t) = (eq_by_cmp_equiv texts_total).refl t

-- one that stands at a place is among them
pub among : (xs : List Index) (k : ℕ) (x : Index) → k < length xs → get_or xs k x ≡ x → in_indices xs x ≡ true
among xs k x l e = list_any_at (λ y. is_same_index y x) xs k x l (ap (λ y. is_same_index y x) e ∙ itself x)

points_in : (ps : List Coordinates) (p : Coordinates) → in_indices (map i.Point ps) (i.Point p) ≡ in_points ps p
points_in ps p = any_map (λ y. is_same_index y (i.Point p)) i.Point ps

no_text : (ps : List Coordinates) (t : Text) → in_indices (map i.Point ps) (i.Text t) ≡ false
no_text ps t = any_map (λ y. is_same_index y (i.Text t)) i.Point ps ∙ any_none ps

texts_in : (ts : List Text) (t : Text) → in_indices (map i.Text ts) (i.Text t) ≡ in_texts ts t
texts_in ts t = any_map (λ y. is_same_index y (i.Text t)) i.Text ts

no_point : (ts : List Text) (p : Coordinates) → in_indices (map i.Text ts) (i.Point p) ≡ false
no_point ts p = any_map (λ y. is_same_index y (i.Point p)) i.Text ts ∙ any_none ts

-- ---- one in common

pub points_meet : (ps qs : List Coordinates) → list_any (in_points ps) qs ≡ list_any (in_indices (map i.Point ps)) (map i.Point qs)
points_meet ps qs = any_like (in_points ps) (λ q. in_indices (map i.Point ps) (i.Point q)) qs (λ q. sym (points_in ps q))
    ∙ sym (any_map (in_indices (map i.Point ps)) i.Point qs)

pub texts_meet : (ts us : List Text) → list_any (in_texts ts) us ≡ list_any (in_indices (map i.Text ts)) (map i.Text us)
texts_meet ts us = any_like (in_texts ts) (λ u. in_indices (map i.Text ts) (i.Text u)) us (λ u. sym (texts_in ts u))
    ∙ sym (any_map (in_indices (map i.Text ts)) i.Text us)

pub points_apart : (ts : List Text) (qs : List Coordinates) → false ≡ list_any (in_indices (map i.Text ts)) (map i.Point qs)
points_apart ts qs = sym (any_map (in_indices (map i.Text ts)) i.Point qs
    ∙ any_like (λ q. in_indices (map i.Text ts) (i.Point q)) (λ q. false) qs (no_point ts) ∙ any_none qs)

pub texts_apart : (ps : List Coordinates) (us : List Text) → false ≡ list_any (in_indices (map i.Point ps)) (map i.Text us)
texts_apart ps us = sym (any_map (in_indices (map i.Point ps)) i.Text us
    ∙ any_like (λ u. in_indices (map i.Point ps) (i.Text u)) (λ u. false) us (no_text ps) ∙ any_none us)

-- ---- the keys at both ends

pub points_end : (ps : List Coordinates) (a b : ℕ) → ((p : Coordinates) → in_points ps p ≡ true → (a ≤ key_of p) × (key_of p ≤ b)) →
    (x : Index) → in_indices (map i.Point ps) x ≡ true → (a ≤ index_key x) × (index_key x ≤ b)
points_end ps a b h (i.Point p) there = h p (sym (points_in ps p) ∙ there)
points_end ps a b h (i.Text t) there = absurd (true≢false (sym there ∙ no_text ps t))

pub texts_end : (ts : List Text) (a b : ℕ) → ((t : Text) → in_texts ts t ≡ true → (a ≤ text_key t) × (text_key t ≤ b)) →
    (x : Index) → in_indices (map i.Text ts) x ≡ true → (a ≤ index_key x) × (index_key x ≤ b)
texts_end ts a b h (i.Point p) there = absurd (true≢false (sym there ∙ no_point ts p))
texts_end ts a b h (i.Text t) there = h t (sym (texts_in ts t) ∙ there)
