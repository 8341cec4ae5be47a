-- Dependents by what is kept are those of the traces.
use Rattle.std.proofs.Common.{◌≡◌, ℕ, zero, suc, true, false, List, [], ◌∷◌, Option, Some, None, slice_get, arith, refl, sym, ap, ◌∙◌}
use Rattle.selective_undo.specs.Edit.{Trace, Needs, needs}
use Rattle.selective_undo.specs.History.{traces, Blocks, Dependent}
use Rattle.selective_undo.specs.History as h
use Rattle.selective_undo.specs.Log.{footprint_of, footprints, blocks_undo, meets_any}
use Rattle.selective_undo.proofs.Locality.{needs_true, needs_false}
use Rattle.selective_undo.proofs.Log.{footprint_there, trace_of, some_footprint}
use Rattle.wb_cells.specs.Schema.{workbook}
use Rattle.wb_log.specs.declared.entry.LoggedEdit as kept
use Rattle.wb_log.specs.Kept.{footprint_at_number, by_number, entries_meant, Shows}
use Rattle.wb_log.specs.Needed as by_footprints
use Rattle.wb_log.specs.Needed.{NeedsKept, FromFootprints, AreFromFootprints}
use Rattle.wb_log.specs.Cascades.{IsDependent, AreDependents}
use Rattle.wb_log.proofs.Entries.{history-log, kept-log}

at_place : {F : Type 0} (xs : List (Option F)) (j : ℕ) (f : F) → footprint_at_number xs j ≡ Some f → slice_get xs j ≡ Some (Some f)
at_place [] j f e = cc
at_place (x ∷ xs) zero f e = ap Some e
at_place (x ∷ xs) (suc j) f e = at_place xs j f e

by_place : {F : Type 0} (xs : List (Option F)) (j : ℕ) (f : F) → slice_get xs j ≡ Some (Some f) → footprint_at_number xs j ≡ Some f
by_place [] j f e = cc
by_place (x ∷ xs) zero f e = cc
by_place (x ∷ xs) (suc j) f e = by_place xs j f e

pub by_traces : (es : List kept.LoggedEdit) (s : _) → Shows es s → by_number es ≡ footprint_at_number (None ∷ footprints (traces (entries_meant es)))
by_traces es s shows = ap (λ os. footprint_at_number (None ∷ os)) (sym (kept-log es) ∙ shows.footprints ∙ ap (λ g. footprints (traces g)) (history-log es))

module _ (ts : List (Option (Trace workbook))) where
  numbers_need : (j m : ℕ) → NeedsKept (footprint_at_number (None ∷ footprints ts)) (suc j) (suc m) → Blocks ts j m
  numbers_need j m need =
      let of_k = trace_of ts m need.footprint (at_place (footprints ts) m need.footprint need.kept) in
      let met = some_footprint need.footprint.touched (footprint_at_number (footprints ts) j) need.needs in
      let of_j = trace_of ts j met.0 (at_place (footprints ts) j met.0 met.1) in
      let needed : needs of_j.0 of_k.0 ≡ true = ap (λ f. meets_any f of_k.0.before) of_j.2 ∙ ap (λ f. meets_any met.0 f.touched) of_k.2 ∙ met.2 in
      record {
        later = omega (arith, need.later);
        of_j = of_j.0;
        of_k = of_k.0;
        j_in_force = of_j.1;
        k_in_force = of_k.1;
        needs =
            needs_true of_j.0 of_k.0 needed;
      }

  needed_true : (u t : Trace workbook) → Needs u t → needs u t ≡ true
  needed_true u t need = elim (needs u t) as (λ b. needs u t ≡ b → b ≡ true) [ true ↦ λ e. refl | false ↦ λ e. absurd (needs_false u t e need) ] refl

  need_numbers : (j m : ℕ) → Blocks ts j m → NeedsKept (footprint_at_number (None ∷ footprints ts)) (suc j) (suc m)
  need_numbers j m b =
      let at_j = by_place (footprints ts) j (footprint_of b.of_j) (footprint_there ts j b.of_j b.j_in_force) in
      record {
        later = omega (arith, b.later);
        footprint = footprint_of b.of_k;
        kept = by_place (footprints ts) m (footprint_of b.of_k) (footprint_there ts m b.of_k b.k_in_force);
        needs = ap (blocks_undo b.of_k.before) at_j ∙ needed_true b.of_j b.of_k b.needs;
      }

  one_more : (k j m : ℕ) → NeedsKept (footprint_at_number (None ∷ footprints ts)) j m → IsDependent ts k m → IsDependent ts k j
  one_more k j zero need d = absurd d
  one_more k zero (suc m) need d = absurd (omega (arith, need.later))
  one_more k (suc j) (suc m) need d = h.through (numbers_need j m need) d

  number_depends : (k n : ℕ) → FromFootprints (footprint_at_number (None ∷ footprints ts)) (suc k) n → IsDependent ts k n
  number_depends k n by_footprints.itself = h.itself
  number_depends k n (by_footprints.through need d) = one_more k n _ need (number_depends k _ d)

  depends_number : (k j : ℕ) → Dependent ts k j → FromFootprints (footprint_at_number (None ∷ footprints ts)) (suc k) (suc j)
  depends_number k j h.itself = by_footprints.itself
  depends_number k j (h.through b d) = by_footprints.through (need_numbers j _ b) (depends_number k _ d)

  back : (k n : ℕ) → IsDependent ts k n → FromFootprints (footprint_at_number (None ∷ footprints ts)) (suc k) n
  back k zero d = absurd d
  back k (suc j) d = depends_number k j d

  pub are_dependents : (k : ℕ) (ns : List ℕ) → AreFromFootprints (footprint_at_number (None ∷ footprints ts)) (suc k) ns → AreDependents ts k ns
  are_dependents k ns h = (h.0, λ n. (λ has. number_depends k n ((h.1 n).0 has), λ d. (h.1 n).1 (back k n d)))
