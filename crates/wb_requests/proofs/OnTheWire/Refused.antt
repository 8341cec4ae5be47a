-- Each op: what its reader reads is without a fault, and what it refuses is refused with the least.
use Rattle.std.proofs.Common.{◌≡◌, ◌≤◌, ℕ, ℤ, suc, Bool, true, false, List, [], ◌∷◌, codes, length, Option, Some, None, option_map, option_and_then, Result, Ok}
use Rattle.std.proofs.Common.{Err, refl, sym, ap, ◌∙◌, subst, nat_eq, if◌then◌else◌, arith, eqb-true, eq-eqb}
use Rattle.std.specs.Prelude.{bytes_eq, Contains}
use Rattle.std.specs.Option.{ok_or, option_map_or}
use Rattle.std.proofs.lemmas.List.Elements.{All-contains}
use Rattle.std.proofs.lemmas.List.Sums.{AllPass-from_list_all}
use Rattle.serde_json.specs.Data.{Data, string, object, Members}
use Rattle.serde_json.specs.Find.{get_member, as_str}
use Rattle.wb_dist.specs.Maps.{LayoutMap, whole}
use Rattle.wb_cells.specs.Cells.{Name}
use Rattle.wb_cells.specs.Shapes.{Range, indices}
use Rattle.wb_edit.specs.declared.asked_numbers.AskedNumbers.TheVariants.{Rectangle as numbered}
use Rattle.wb_edit.specs.declared.asked_rectangle.AskedRectangle.TheVariants.{Ranges, Indices}
use Rattle.wb_edit.specs.declared.command.Command.TheVariants.{Domain as NewDomain, Remap, Reshape, Fill, Put}
use Rattle.wb_edit.specs.declared.edit.Edit.TheVariants.{Load}
use Rattle.wb_edit.specs.declared.refusal.Refusal.{Refusal}
use Rattle.wb_edit.specs.declared.refusal.Refusal.TheVariants.{BadRequest, BadLiteral}
use Rattle.wb_literals.specs.Domain.{Domain, rectangle, set, domain_of as domain_of_text}
use Rattle.wb_literals.specs.Grammar as grammar
use Rattle.wb_literals.specs.Mapping.{mapping_of}
use Rattle.wb_literals.specs.Set.{Items as Listed}
use Rattle.wb_literals.specs.declared.mapping.MappingLiteral.{MappingLiteral}
use Rattle.wb_literals.specs.declared.mapping.MappingLiteral.TheVariants.{Whole}
use Rattle.wb_literals.specs.declared.rectangle.RectangleLiteral.{RectangleLiteral}
use Rattle.wb_reshape.specs.declared.operand.Operand.TheVariants.{Rectangle}
use Rattle.wb_reshape.specs.declared.new_indices.Displacement.TheVariants.{Translate, Expand}
use Rattle.wb_reshape.specs.declared.new_indices.SetOperation.TheVariants.{Union, Intersection, Difference, SymmetricDifference}
use Rattle.wb_reshape.specs.declared.new_indices.NewIndices.{NewIndices}
use Rattle.wb_reshape.specs.declared.new_indices.NewIndices.TheVariants.{To, Slice, Displace, Combine}
use Rattle.wb_requests.specs.Fields.{◌>>=◌, member_count, has_fields, has_fields_and, text_field, optional_text, text_if_there, name_field, i64_field, u64_field}
use Rattle.wb_requests.specs.Fields.{integers_field}
use Rattle.wb_requests.specs.Literals.{literal_domain, literal_mapping, text_of_book, domain_within, mapping_within}
use Rattle.wb_requests.specs.Sources.{to_by, slice_by, displace_by, combine_by, source_of}
use Rattle.wb_requests.specs.Requests.{of_command, domain_with, domain_by, domain_of, remap_of, reshape_of, fill_over, fill_of, put_on, put_over, put_of, load_of}
use Rattle.wb_requests.specs.Requests.{undo_by_number, undo_of, print_of, history_from, history_of, edits_of, by_single_op}
use Rattle.wb_requests.specs.declared.requests.request.Request.{Request}
use Rattle.wb_requests.specs.declared.requests.request.Request.TheVariants.{Change, Undo, Print, History, Edits}
use Rattle.wb_requests.specs.Wire.Faults.{Fault, bad_request, bad_literal, too_large, bad_mapping, code, refusal_of, forms, HasKeys, NamesOp, IsWhole, Kind, kind_of}
use Rattle.wb_requests.specs.Wire.Faults.{Fails, IsMiscounted, not_whole, of_count}
use Rattle.wb_requests.specs.Wire.Spelled.{IsOperand}
use Rattle.wb_requests.specs.Wire.Faults as kinds
use Rattle.wb_requests.proofs.OnTheWire.Members.{true_false, equal_key}
use Rattle.wb_requests.proofs.OnTheWire.Values.{some_of_ok, no_some, mapped, str_found, text_in, text_found, text_read, integer_in}
use Rattle.wb_requests.proofs.OnTheWire.Values.{ok_same, some_same, integers_in, integers_found, integers_read}
use Rattle.wb_requests.proofs.OnTheWire.Spellings.{count_found, domain_found, domain_read, rectangle_found, rectangle_read, literal_read}
use Rattle.wb_requests.proofs.OnTheWire.Steps.{two_of}
use Rattle.wb_requests.proofs.OnTheWire.Found.{Reader, by_first, singles}
use Rattle.wb_requests.proofs.OnTheWire.Keys.{has, apart, AllKeys, keys_counted, no_more, of_form, contained_at, form_at, IsForm, members_same, not_whole_by, key_there, passes, lacks, FailsAt}
use Rattle.wb_requests.proofs.OnTheWire.Failing.{err_same, no_err, or_only, IsReader, name_in, name_reader, integer_reader, integers_reader, number_reader, offsets_reader}
use Rattle.wb_requests.proofs.OnTheWire.Failing.{text_bad, unspelled_domain, unspelled_mapping, rectangle_err, domain_judged, domain_in, domain_reader, mapping_in, mapping_reader}
use Rattle.wb_requests.proofs.OnTheWire.Failing.{workbook_in, workbook_reader, string_same, source_reader}
use Rattle.wb_requests.proofs.OnTheWire.Judged.{NoFault, Refused, Judges, Judged, IsJudged, first, bind_judged, one_judged, two_judged, three_judged}
use Rattle.wb_requests.proofs.OnTheWire.Judged.{fails_there, member_fault, Fine, fine, field_bad, field_bad_by, uncounted, count_bad, whole_fine, all_fine, IsAbove}
use Rattle.wb_requests.proofs.OnTheWire.Judged.{fine_above, least_of, all_fine_by, value_bad_by, value_bad}
use Rattle.std.specs.List.{list_all}
use Rattle.wb_requests.proofs.OnTheWire.RefusedPlain.{sparse_judged, assoc_judged, drop_domain_judged, add_judged, remove_judged, array_judged, drop_array_judged, set_judged}
use Rattle.wb_requests.proofs.OnTheWire.RefusedPlain.{fill_all_judged, irv_judged, copy_judged, all_judged, redo_judged, cascade_judged, dependents_judged, get_judged}
use Rattle.wb_requests.proofs.OnTheWire.RefusedPlain.{where_judged, size_judged, piece_judged, reduce_judged, state_judged, note_judged, explain_judged}

-- ---- the ops with one literal

-- a text where a literal is wanted
text_field_bad : (ms : Members) (o k : List ℕ) (kind : Kind) → NamesOp ms o → ((v : Data) → ((t : List ℕ) → v ≡ string t → ⊥) → Fails kind v bad_request) →
    kind_of o k ≡ Some kind → list_all (passes o (has k)) forms ≡ true
    → (why : Refusal) (v : Option Data) → get_member k ms ≡ v → text_in v ≡ Err why → Refused (object ms) why
text_field_bad ms o k kind s h kd a why None g e = first (object ms) why (err_same why BadRequest (sym e)) (not_whole refl (lacks ms o k s a g))
text_field_bad ms o k kind s h kd a why (Some v) g e = let b = text_bad v why e in
    first (object ms) why b.0 (member_fault ms o k kind v bad_request s kd g (h v b.1))

-- what is spelled and then judged
spelled_judged : {L M X : Type 0} (J : Result X Refusal → Type 0) (l : Result L Refusal) (w : L → Result M Refusal) (K : M → X) →
    ((why : Refusal) → (l >>= w) ≡ Err why → J (Err why))
    → ((m : M) → (l >>= w) ≡ Ok m → J (Ok (K m))) → J (l >>= (λ x. w x >>= (λ m. Ok (K m))))
spelled_judged {L} {M} J (Ok x) w K bad good = by (w x) (λ why e. bad why e) (λ m e. good m e)
  where
    by : (r : Result M Refusal) → ((why : Refusal) → r ≡ Err why → J (Err why)) → ((m : M) → r ≡ Ok m → J (Ok (K m))) → J (r >>= (λ m. Ok (K m)))
    by (Ok m) bad good = good m refl
    by (Err why) bad good = bad why refl
spelled_judged J (Err why) w K bad good = bad why refl

remap_judged : IsJudged (codes "remap") remap_of
remap_judged ms s =
    let o = codes "remap" in
    two_judged (Judged ms) (has_fields 3 (object ms)) (name_field (codes "d") (object ms)) (text_field (codes "map") (object ms))
    (λ d text. literal_mapping text >>= (λ spelled. mapping_within spelled >>= (λ m. Ok (of_command (Remap d m)))))
    (λ why. count_bad ms o 2 s refl why) (λ why. field_bad ms o (codes "d") s name_reader refl refl why)
    (λ why e. text_field_bad ms o (codes "map") kinds.mapping s (λ v h. h) refl refl why (get_member (codes "map") ms) refl e)
    (λ d text n p q. with_map d text n p (text_found (get_member (codes "map") ms) text q))
  where
    with_map : (d : Name) (text : List ℕ) → has_fields 3 (object ms) ≡ Ok tt → name_in (get_member (codes "d") ms) ≡ Ok d →
        get_member (codes "map") ms ≡ Some (string text)
        → Judged ms (literal_mapping text >>= (λ spelled. mapping_within spelled >>= (λ m. Ok (of_command (Remap d m)))))
    with_map d text n p at =
        let o = codes "remap" in let ks = codes "d" ∷ codes "map" ∷ [] in
        let c : IsForm (o, ks) = form_at 15 (o, ks) refl refl refl in
        let named : Fine ms o (codes "d") = fine ms o (codes "d") name_reader refl d p in
        spelled_judged (Judged ms) (literal_mapping text) mapping_within (λ m. of_command (Remap d m))
        (λ why e. value_bad ms o ks s c (whole_fine ms o ks s refl (count_found ms 3 tt n) (named.0, ((string text, at), tt))) (codes "map") mapping_reader
        refl (string text) at why e (λ f same. (fine_above ms o (codes "d") f named, (same, tt))))
        (λ m e. all_fine ms o ks s c refl (count_found ms 3 tt n) (named, (fine ms o (codes "map") mapping_reader refl m (ap mapping_in at ∙ e), tt)))

load_judged : IsJudged (codes "load") load_of
load_judged ms s =
    let o = codes "load" in
    one_judged (Judged ms) (has_fields 2 (object ms)) (text_field (codes "text") (object ms)) (λ text. text_of_book text >>= (λ t. Ok (Change (Load t))))
    (λ why. count_bad ms o 1 s refl why) (λ why e. text_field_bad ms o (codes "text") kinds.workbook s (λ v h. h) refl refl why (get_member (codes "text") ms)
    refl e)
    (λ text n q. with_text text n (text_found (get_member (codes "text") ms) text q))
  where
    with_text : (text : List ℕ) → has_fields 2 (object ms) ≡ Ok tt → get_member (codes "text") ms ≡ Some (string text) →
        Judged ms (text_of_book text >>= (λ t. Ok (Change (Load t))))
    with_text text n at =
        let o = codes "load" in let ks = codes "text" ∷ [] in
        let c : IsForm (o, ks) = form_at 36 (o, ks) refl refl refl in
        bind_judged (Judged ms) (text_of_book text) (λ t. Ok (Change (Load t)))
        (λ why e. value_bad ms o ks s c (whole_fine ms o ks s refl (count_found ms 2 tt n) ((string text, at), tt)) (codes "text") workbook_reader refl
        (string text) at why e (λ f same. (same, tt)))
        (λ t e. all_fine ms o ks s c refl (count_found ms 2 tt n) (fine ms o (codes "text") workbook_reader refl t (ap workbook_in at ∙ e), tt))

-- by what a literal spells
by_domain : {X : Type 0} (J : Result X Refusal → Type 0) (l : Result Domain Refusal) (K : Domain → Result X Refusal) →
    ((why : Refusal) → l ≡ Err why → J (Err why)) → ((r : RectangleLiteral) → l ≡ Ok (rectangle r) → J (K (rectangle r)))
    → ((listed : Listed) → l ≡ Ok (set listed) → J (K (set listed))) → J (l >>= K)
by_domain J (Ok (rectangle r)) K bad one more = one r refl
by_domain J (Ok (set listed)) K bad one more = more listed refl
by_domain J (Err why) K bad one more = bad why refl

-- a literal that is spelled, by whether it is within the limits
judged_err : (l : Result Domain Refusal) (r : RectangleLiteral) (why : Refusal) → l ≡ Ok (rectangle r) → domain_within r ≡ Err why →
    (l >>= domain_judged) ≡ Err why
judged_err l r why e f = rw (e, f) refl

judged_ok : (l : Result Domain Refusal) (r : RectangleLiteral) (ranges : List Range) → l ≡ Ok (rectangle r) → domain_within r ≡ Ok ranges →
    (l >>= domain_judged) ≡ Ok tt
judged_ok l r ranges e f = rw (e, f) refl

unspelled_err : (l : Result Domain Refusal) (why : Refusal) → l ≡ Err why → (l >>= domain_judged) ≡ Err why
unspelled_err l why e = rw e refl

set_ok : (l : Result Domain Refusal) (listed : Listed) → l ≡ Ok (set listed) → (l >>= domain_judged) ≡ Ok tt
set_ok l listed e = rw e refl

fill_judged : IsJudged (codes "fill") fill_of
fill_judged ms s =
    let o = codes "fill" in
    three_judged (Judged ms) (has_fields 4 (object ms)) (name_field (codes "a") (object ms)) (text_field (codes "on") (object ms))
    (i64_field (codes "v") (object ms)) (λ a text v. literal_domain text >>= (λ l. fill_over a l v))
    (λ why. count_bad ms o 3 s refl why) (λ why. field_bad ms o (codes "a") s name_reader refl refl why)
    (λ why e. text_field_bad ms o (codes "on") kinds.domain s (λ v h. h) refl refl why (get_member (codes "on") ms) refl e)
    (λ why. field_bad ms o (codes "v") s integer_reader refl refl why)
    (λ a text v n p q r. with_text a text v n p (text_found (get_member (codes "on") ms) text q) r)
  where
    with_text : (a : Name) (text : List ℕ) (v : ℤ) → has_fields 4 (object ms) ≡ Ok tt → name_in (get_member (codes "a") ms) ≡ Ok a →
        get_member (codes "on") ms ≡ Some (string text) → integer_in (get_member (codes "v") ms) ≡ Ok v
        → Judged ms (literal_domain text >>= (λ l. fill_over a l v))
    with_text a text v n p at q =
        let o = codes "fill" in let ks = codes "a" ∷ codes "on" ∷ codes "v" ∷ [] in
        let c : IsForm (o, ks) = form_at 19 (o, ks) refl refl refl in
        let named : Fine ms o (codes "a") = fine ms o (codes "a") name_reader refl a p in
        let value : Fine ms o (codes "v") = fine ms o (codes "v") integer_reader refl v q in
        let bad : (why : Refusal) → domain_in (Some (string text)) ≡ Err why → Refused (object ms) why =
        λ why e. value_bad ms o ks s c (whole_fine ms o ks s refl (count_found ms 4 tt n) (named.0, ((string text, at), (value.0, tt))))
        (codes "on") domain_reader refl (string text) at why e (λ f same.
        (fine_above ms o (codes "a") f named, (same, (fine_above ms o (codes "v") f value, tt)))) in
        let good : domain_in (Some (string text)) ≡ Ok tt → NoFault (object ms) =
        λ e. all_fine ms o ks s c refl (count_found ms 4 tt n) (named, (fine ms o (codes "on") domain_reader refl tt (ap domain_in at ∙ e), (value, tt))) in
        by_domain (Judged ms) (literal_domain text) (λ l. fill_over a l v)
        (λ why e. bad why (unspelled_err (literal_domain text) why e))
        (λ r e. bind_judged (Judged ms) (domain_within r) (λ ranges. Ok (of_command (Fill a (Ranges ranges) v)))
        (λ why f. bad why (judged_err (literal_domain text) r why e f)) (λ ranges f. good (judged_ok (literal_domain text) r ranges e f)))
        (λ listed e. good (set_ok (literal_domain text) listed e))

-- ---- numbers, as many as a rectangle has indices

-- the literal of a rectangle is read as it
rectangle_told : (text : List ℕ) (ranges : List Range) → IsOperand (string text) (Rectangle ranges) → (l : RectangleLiteral) ×
    (literal_domain text ≡ Ok (rectangle l)) × (domain_within l ≡ Ok ranges)
rectangle_told text ranges h = (
  h.1,
  subst (λ t. literal_domain t ≡ Ok (rectangle h.1)) (sym (string_same text h.0 h.2)) (domain_read h.0 (rectangle h.1) h.3),
  rectangle_read h.1 ranges h.4,
)

-- what is miscounted, by what is read of its members
other_count : (ms : Members) (text : List ℕ) (vs : List ℤ) → get_member (codes "on") ms ≡ Some (string text) →
    integers_in (get_member (codes "vs") ms) ≡ Ok vs → IsMiscounted (object ms) → (l : RectangleLiteral) × (ranges : List Range) ×
    (literal_domain text ≡ Ok (rectangle l)) × (domain_within l ≡ Ok ranges) × (length vs ≡ length (indices ranges) → ⊥)
other_count ms text vs at q m =
    let same : ms ≡ m.members = members_same ms m.members m.is_object in
    let on : get_member (codes "on") ms ≡ Some m.on = subst (λ ms. get_member (codes "on") ms ≡ Some m.on) (sym same) m.is_on in
    let is_text : m.on ≡ string text = some_same m.on (string text) (sym on ∙ at) in
    let told = rectangle_told text m.ranges (subst (λ d. IsOperand d (Rectangle m.ranges)) is_text m.rectangle) in
    let v : get_member (codes "vs") ms ≡ Some m.vs = subst (λ ms. get_member (codes "vs") ms ≡ Some m.vs) (sym same) m.is_vs in
    let found : m.found ≡ vs = ok_same m.found vs (sym (integers_read (get_member (codes "vs") ms) m.vs m.found v m.integral) ∙ q) in
    (told.0, m.ranges, told.1, told.2, λ e. m.differ (ap length found ∙ e))

rectangle_is : (k r : RectangleLiteral) → rectangle k ≡ rectangle r → k ≡ r
rectangle_is k r e = cc

ranges_are : (l : Result Domain Refusal) (k r : RectangleLiteral) (js is : List Range) → l ≡ Ok (rectangle k) → l ≡ Ok (rectangle r) →
    domain_within k ≡ Ok js → domain_within r ≡ Ok is → js ≡ is
ranges_are l k r js is a b c d = ok_same js is (sym c ∙ ap domain_within (rectangle_is k r (ok_same (rectangle k) (rectangle r) (sym a ∙ b))) ∙ d)

no_set : (k : RectangleLiteral) (listed : Listed) → rectangle k ≡ set listed → ⊥
no_set k listed e = cc

put_judged : IsJudged (codes "put") put_of
put_judged ms s =
    let o = codes "put" in
    three_judged (Judged ms) (has_fields 4 (object ms)) (name_field (codes "a") (object ms)) (text_field (codes "on") (object ms))
    (integers_field (codes "vs") (object ms)) (λ a text vs. literal_domain text >>= (λ l. put_over a l vs))
    (λ why. count_bad ms o 3 s refl why) (λ why. field_bad ms o (codes "a") s name_reader refl refl why)
    (λ why e. text_field_bad ms o (codes "on") kinds.domain s (λ v h. h) refl refl why (get_member (codes "on") ms) refl e)
    (λ why. field_bad ms o (codes "vs") s integers_reader refl refl why)
    (λ a text vs n p q r. with_text a text vs n p (text_found (get_member (codes "on") ms) text q) r)
  where
    with_text : (a : Name) (text : List ℕ) (vs : List ℤ) → has_fields 4 (object ms) ≡ Ok tt → name_in (get_member (codes "a") ms) ≡ Ok a →
        get_member (codes "on") ms ≡ Some (string text) → integers_in (get_member (codes "vs") ms) ≡ Ok vs
        → Judged ms (literal_domain text >>= (λ l. put_over a l vs))
    with_text a text vs n p at q =
        let o = codes "put" in let ks = codes "a" ∷ codes "on" ∷ codes "vs" ∷ [] in
        let c : Contains forms (o, ks) = contained_at 40 (o, ks) refl refl in
        let named : Fine ms o (codes "a") = fine ms o (codes "a") name_reader refl a p in
        let value : Fine ms o (codes "vs") = fine ms o (codes "vs") integers_reader refl vs q in
        let bad : (why : Refusal) → domain_in (Some (string text)) ≡ Err why → Refused (object ms) why =
        λ why e. value_bad_by ms o ks s c (whole_fine ms o ks s refl (count_found ms 4 tt n) (named.0, ((string text, at), (value.0, tt))))
        (codes "on") domain_reader refl (string text) at why e (λ f same.
        (fine_above ms o (codes "a") f named, (same, (fine_above ms o (codes "vs") f value, tt))))
        (λ m. let x = other_count ms text vs at q m in no_err (sym (judged_ok (literal_domain text) x.0 x.1 x.2 x.3) ∙ e)) in
        let good : domain_in (Some (string text)) ≡ Ok tt → (IsMiscounted (object ms) → ⊥) → NoFault (object ms) =
        λ e count. all_fine_by ms o ks s c refl (count_found ms 4 tt n)
        (named, (fine ms o (codes "on") domain_reader refl tt (ap domain_in at ∙ e), (value, tt))) count in
        let other : (r : RectangleLiteral) (ranges : List Range) → literal_domain text ≡ Ok (rectangle r) → domain_within r ≡ Ok ranges →
        (length vs ≡ length (indices ranges) → ⊥) → Refused (object ms) BadRequest =
        λ r ranges e f differ. let v = integers_found (get_member (codes "vs") ms) vs q in
        first (object ms) BadRequest refl (of_count refl (record {
          members = ms;
          on = string text;
          vs = v.0;
          ranges = ranges;
          found = vs;
          is_object = refl;
          names_op = s;
          is_on = at;
          is_vs = v.1;
          rectangle = (text, r, refl, domain_found text (rectangle r) e, rectangle_found r ranges f);
          integral = v.2;
          differ = differ;
        })) in
        let counted : (r : RectangleLiteral) (ranges : List Range) → literal_domain text ≡ Ok (rectangle r) → domain_within r ≡ Ok ranges →
        Judged ms (put_on a ranges vs) =
        λ r ranges e f. elim (nat_eq (length vs) (length (indices ranges))) as (λ b. nat_eq (length vs) (length (indices ranges)) ≡ b →
        Judged {X = Request} ms (if b then Ok (of_command (Put a (numbered (ranges, vs)))) else Err BadRequest)) [
          | true ↦ λ k. good (judged_ok (literal_domain text) r ranges e f) (λ m. let x = other_count ms text vs at q m in
              x.4 (eqb-true (length vs) (length (indices ranges)) k ∙
              ap (λ is. length (indices is)) (sym (ranges_are (literal_domain text) x.0 r x.1 ranges x.2 e x.3 f))))
          | false ↦ λ k. other r ranges e f (λ same. true_false (sym (eq-eqb (length vs) (length (indices ranges)) same) ∙ k))
        ] refl in
        by_domain (Judged ms) (literal_domain text) (λ l. put_over a l vs)
        (λ why e. bad why (unspelled_err (literal_domain text) why e))
        (λ r e. bind_judged (Judged ms) (domain_within r) (λ ranges. put_on a ranges vs)
        (λ why f. bad why (judged_err (literal_domain text) r why e f)) (λ ranges f. counted r ranges e f))
        (λ listed e. good (set_ok (literal_domain text) listed e) (λ m. let x = other_count ms text vs at q m in
        no_set x.0 listed (ok_same (rectangle x.0) (set listed) (sym x.2 ∙ e))))

-- ---- a new domain, whose mapping may be missing

-- what is wrong with a text that is spelled
domain_from : (t : List ℕ) (g : Fault) → Fails kinds.domain (string t) g → code bad_literal ≤ code g
domain_from t bad_request h = absurd (h t refl)
domain_from t bad_literal h = omega arith
domain_from t too_large h = omega arith
domain_from t bad_mapping h = absurd h

domain_spelled_from : (t : List ℕ) (l : Domain) (g : Fault) → literal_domain t ≡ Ok l → Fails kinds.domain (string t) g → code too_large ≤ code g
domain_spelled_from t l bad_request e h = absurd (h t refl)
domain_spelled_from t l bad_literal e h = no_err (sym e ∙ unspelled_domain t (λ m k. h.2 m (subst (λ t. grammar.IsDomain t m) (string_same t h.0 h.1) k)))
domain_spelled_from t l too_large e h = omega arith
domain_spelled_from t l bad_mapping e h = absurd h

mapping_from : (t : List ℕ) (g : Fault) → Fails kinds.mapping (string t) g → code bad_literal ≤ code g
mapping_from t bad_request h = absurd (h t refl)
mapping_from t bad_literal h = omega arith
mapping_from t too_large h = omega arith
mapping_from t bad_mapping h = omega arith

mapping_spelled_from : (t : List ℕ) (l : MappingLiteral) (g : Fault) → literal_mapping t ≡ Ok l → Fails kinds.mapping (string t) g → code too_large ≤ code g
mapping_spelled_from t l bad_request e h = absurd (h t refl)
mapping_spelled_from t l bad_literal e h = no_err (sym e ∙ unspelled_mapping t (λ m k. h.2 m (subst (λ t. grammar.IsMapping t m) (string_same t h.0 h.1) k)))
mapping_spelled_from t l too_large e h = omega arith
mapping_spelled_from t l bad_mapping e h = omega arith

module _ (ms : Members) (s : NamesOp ms (codes "domain")) where
  without_map : (d : Name) (text : List ℕ) → get_member (codes "map") ms ≡ None → has_fields 3 (object ms) ≡ Ok tt →
      name_in (get_member (codes "d") ms) ≡ Ok d → get_member (codes "is") ms ≡ Some (string text)
      → Judged ms (domain_by d text None)
  without_map d text none n p at =
      let o = codes "domain" in let ks = codes "d" ∷ codes "is" ∷ [] in
      let c : IsForm (o, ks) = form_at 0 (o, ks) refl refl refl in
      let named : Fine ms o (codes "d") = fine ms o (codes "d") name_reader refl d p in
      let bad : (why : Refusal) → domain_in (Some (string text)) ≡ Err why → Refused (object ms) why =
      λ why e. value_bad ms o ks s c (whole_fine ms o ks s refl (count_found ms 3 tt n) (named.0, ((string text, at), tt)))
      (codes "is") domain_reader refl (string text) at why e (λ f same. (fine_above ms o (codes "d") f named, (same, tt))) in
      let good : domain_in (Some (string text)) ≡ Ok tt → NoFault (object ms) =
      λ e. all_fine ms o ks s c refl (count_found ms 3 tt n) (named, (fine ms o (codes "is") domain_reader refl tt (ap domain_in at ∙ e), tt)) in
      by_domain (Judged ms) (literal_domain text) (λ l. domain_with d l Whole)
      (λ why e. bad why (unspelled_err (literal_domain text) why e))
      (λ r e. bind_judged (Judged ms) (domain_within r) (λ ranges. Ok (of_command (NewDomain d (Ranges ranges) whole)))
      (λ why f. bad why (judged_err (literal_domain text) r why e f)) (λ ranges f. good (judged_ok (literal_domain text) r ranges e f)))
      (λ listed e. good (set_ok (literal_domain text) listed e))

  with_map : (d : Name) (text map : List ℕ) → get_member (codes "map") ms ≡ Some (string map) → has_fields 4 (object ms) ≡ Ok tt →
      name_in (get_member (codes "d") ms) ≡ Ok d → get_member (codes "is") ms ≡ Some (string text)
      → Judged ms (domain_by d text (Some map))
  with_map d text map mapped n p at =
      let o = codes "domain" in let ks = codes "d" ∷ codes "is" ∷ codes "map" ∷ [] in
      let c : IsForm (o, ks) = form_at 1 (o, ks) refl refl refl in
      let named : Fine ms o (codes "d") = fine ms o (codes "d") name_reader refl d p in
      let h : HasKeys ms (codes "op" ∷ ks) = whole_fine ms o ks s refl (count_found ms 4 tt n) (named.0, ((string text, at), ((string map, mapped), tt))) in
      let is_fails : (g : Fault) → FailsAt ms o (codes "is") g → Fails kinds.domain (string text) g =
      λ g x. fails_there ms o (codes "is") kinds.domain (string text) g refl at x in
      let map_fails : (g : Fault) → FailsAt ms o (codes "map") g → Fails kinds.mapping (string map) g =
      λ g x. fails_there ms o (codes "map") kinds.mapping (string map) g refl mapped x in
      let refused : (k : List ℕ) (kind : Kind) (v : Data) → kind_of o k ≡ Some kind → get_member k ms ≡ Some v → (f : Fault) (why : Refusal) →
      why ≡ refusal_of f → Fails kind v f → IsAbove ms o f (codes "is") → IsAbove ms o f (codes "map") → Refused (object ms) why =
      λ k kind v kd g f why q x is_above map_above. (
        f,
        q,
        least_of ms o ks f s c h (member_fault ms o k kind v f s kd g x)
            (fine_above ms o (codes "d") f named, (is_above, (map_above, tt))),
      ) in
      let map_bad : (domain_in (Some (string text)) ≡ Ok tt) → (why : Refusal) → mapping_in (Some (string map)) ≡ Err why → Refused (object ms) why =
      λ e why f. value_bad ms o ks s c h (codes "map") mapping_reader refl (string map) mapped why f
      (λ f same. (
        fine_above ms o (codes "d") f named,
        (
          fine_above ms o (codes "is") f (fine ms o (codes "is") domain_reader refl tt (ap domain_in at ∙ e)),
          (same, tt),
        ),
      )) in
      let good : domain_in (Some (string text)) ≡ Ok tt → (m : LayoutMap) → mapping_in (Some (string map)) ≡ Ok m → NoFault (object ms) =
      λ e m f. all_fine ms o ks s c refl (count_found ms 4 tt n) (
        named,
        (
          fine ms o (codes "is") domain_reader refl tt (ap domain_in at ∙ e),
          (fine ms o (codes "map") mapping_reader refl m (ap mapping_in mapped ∙ f), tt),
        ),
      ) in
      let unspelled : (why : Refusal) → literal_domain text ≡ Err why → Refused (object ms) why = λ why e.
      refused (codes "is") kinds.domain (string text) refl at bad_literal why (literal_refusal text why e)
      (text, refl, λ l k. no_err (sym (domain_read text l k) ∙ e)) (λ g x. domain_from text g (is_fails g x)) (λ g x. mapping_from map g (map_fails g x)) in
      let map_unspelled : (why : Refusal) → literal_mapping map ≡ Err why → Refused (object ms) why = λ why e.
      refused (codes "map") kinds.mapping (string map) refl mapped bad_literal why (mapping_refusal map why e)
      (map, refl, λ l k. no_err (sym (literal_read map l k) ∙ e)) (λ g x. domain_from text g (is_fails g x)) (λ g x. mapping_from map g (map_fails g x)) in
      by_domain (Judged ms) (literal_domain text) (λ l. literal_mapping map >>= (λ m. domain_with d l m))
      unspelled
      (λ r e. bind_judged (Judged ms) (literal_mapping map) (λ m. domain_with d (rectangle r) m) map_unspelled (λ m f.
      bind_judged (Judged ms) (domain_within r) (λ ranges. mapping_within m >>= (λ layout. Ok (of_command (NewDomain d (Ranges ranges) layout))))
      (λ why w. let x = rectangle_err r why w in
      refused (codes "is") kinds.domain (string text) refl at too_large why x.0 (text, r, refl, domain_found text (rectangle r) e, x.1)
      (λ g y. domain_spelled_from text (rectangle r) g e (is_fails g y)) (λ g y. mapping_spelled_from map m g f (map_fails g y)))
      (λ ranges w. let fits = judged_ok (literal_domain text) r ranges e w in
      bind_judged (Judged ms) (mapping_within m) (λ layout. Ok (of_command (NewDomain d (Ranges ranges) layout)))
      (λ why y. map_bad fits why (mapping_err map m why f y))
      (λ layout y. good fits layout (mapping_ok map m layout f y)))))
      (λ listed e. let fits = set_ok (literal_domain text) listed e in
      bind_judged (Judged ms) (literal_mapping map) (λ m. domain_with d (set listed) m) map_unspelled (λ m f.
      bind_judged (Judged ms) (mapping_within m) (λ layout. Ok (of_command (NewDomain d Indices layout))) (λ why y. map_bad fits why (mapping_err map m why f y))
      (λ layout y. good fits layout (mapping_ok map m layout f y))))
    where
      literal_refusal : (t : List ℕ) (why : Refusal) → literal_domain t ≡ Err why → why ≡ BadLiteral
      literal_refusal t why e = or_only (domain_of_text t) BadLiteral why e

      mapping_refusal : (t : List ℕ) (why : Refusal) → literal_mapping t ≡ Err why → why ≡ BadLiteral
      mapping_refusal t why e = or_only (mapping_of t) BadLiteral why e

      mapping_err : (t : List ℕ) (m : MappingLiteral) (why : Refusal) → literal_mapping t ≡ Ok m → mapping_within m ≡ Err why →
          mapping_in (Some (string t)) ≡ Err why
      mapping_err t m why e f = rw (e, f) refl

      mapping_ok : (t : List ℕ) (m : MappingLiteral) (layout : LayoutMap) → literal_mapping t ≡ Ok m → mapping_within m ≡ Ok layout →
          mapping_in (Some (string t)) ≡ Ok layout
      mapping_ok t m layout e f = rw (e, f) refl

  -- a mapping that is no text
  map_bad : (why : Refusal) (v : Option Data) → get_member (codes "map") ms ≡ v → text_if_there v ≡ Err why → Refused (object ms) why
  map_bad why None g e = no_err e
  map_bad why (Some v) g e =
      let only : why ≡ BadRequest = or_only (option_map Some (as_str v)) BadRequest why e in
      first (object ms) why only (member_fault ms (codes "domain") (codes "map") kinds.mapping v bad_request s refl g
      (λ t q. no_err (sym (ap (λ v. ok_or (option_map Some (as_str v)) BadRequest) q) ∙ e)))

  counted_without : get_member (codes "map") ms ≡ None → (member_count ms ≡ 3 → ⊥) → IsWhole (object ms) → ⊥
  counted_without none other = not_whole_by ms (codes "domain") s (λ ks c h.
      let p = of_form (codes "domain") ks (λ ks. if has (codes "map") ks then true else nat_eq (length ks) 2) refl c in
      elim (has (codes "map") ks) as (λ b. has (codes "map") ks ≡ b → (if b then true else nat_eq (length ks) 2) ≡ true → ⊥) [
        | true ↦ λ e q. let x = key_there (codes "map") ks ms e h in no_some x.0 (sym none ∙ x.1)
        | false ↦ λ e q. other (keys_counted (codes "op" ∷ ks) ms h ∙ ap suc (eqb-true (length ks) 2 q))
      ] refl p)

  counted_with : (v : Data) → get_member (codes "map") ms ≡ Some v → (member_count ms ≡ 4 → ⊥) → IsWhole (object ms) → ⊥
  counted_with v g other = not_whole_by ms (codes "domain") s (λ ks c h.
      let p = of_form (codes "domain") ks (λ ks. if has (codes "map") ks then nat_eq (length ks) 3 else true) refl c in
      elim (has (codes "map") ks) as (λ b. has (codes "map") ks ≡ b → (if b then nat_eq (length ks) 3 else true) ≡ true → ⊥) [
        | true ↦ λ e q. other (keys_counted (codes "op" ∷ ks) ms h ∙ ap suc (eqb-true (length ks) 3 q))
        | false ↦ λ e q. no_some v (sym (no_more (codes "map") (codes "op" ∷ ks) ms e h) ∙ g)
      ] refl p)

  counted_bad : (t : Option (List ℕ)) (v : Option Data) → get_member (codes "map") ms ≡ v → text_if_there v ≡ Ok t → (why : Refusal) →
      has_fields_and 3 t (object ms) ≡ Err why → Refused (object ms) why
  counted_bad None None g e why f = let x = uncounted ms 3 why f in first (object ms) why x.0 (not_whole refl (counted_without g x.1))
  counted_bad (Some t) None g e why f = absurd (cc)
  counted_bad None (Some v) g e why f = let x = mapped Some (as_str v) None (some_of_ok (option_map Some (as_str v)) BadRequest None e) in no_some x.0 (sym x.2)
  counted_bad (Some t) (Some v) g e why f = let x = uncounted ms 4 why f in first (object ms) why x.0 (not_whole refl (counted_with v g x.1))

  by_map : (d : Name) (text : List ℕ) (t : Option (List ℕ)) (v : Option Data) → get_member (codes "map") ms ≡ v → text_if_there v ≡ Ok t →
      has_fields_and 3 t (object ms) ≡ Ok tt → name_in (get_member (codes "d") ms) ≡ Ok d
      → get_member (codes "is") ms ≡ Some (string text) → Judged ms (domain_by d text t)
  by_map d text None None g e n p at = without_map d text g n p at
  by_map d text (Some t) None g e n p at = absurd (cc)
  by_map d text None (Some v) g e n p at = let x = mapped Some (as_str v) None (some_of_ok (option_map Some (as_str v)) BadRequest None e) in
      no_some x.0 (sym x.2)
  by_map d text (Some t) (Some v) g e n p at =
      let x = mapped Some (as_str v) (Some t) (some_of_ok (option_map Some (as_str v)) BadRequest (Some t) e) in
      with_map d text t (g ∙ ap Some (str_found v t (x.1 ∙ x.2))) n p at

domain_judged_of : IsJudged (codes "domain") domain_of
domain_judged_of ms s =
    let o = codes "domain" in
    bind_judged (Judged ms) (optional_text (codes "map") (object ms))
    (λ map. two_of (has_fields_and 3 map (object ms)) (name_field (codes "d") (object ms)) (text_field (codes "is") (object ms))
    (λ d text. domain_by d text map))
    (λ why e. map_bad ms s why (get_member (codes "map") ms) refl e)
    (λ t e. two_judged (Judged ms) (has_fields_and 3 t (object ms)) (name_field (codes "d") (object ms)) (text_field (codes "is") (object ms))
    (λ d text. domain_by d text t)
    (λ why f. counted_bad ms s t (get_member (codes "map") ms) refl e why f) (λ why. field_bad ms o (codes "d") s name_reader refl refl why)
    (λ why e. text_field_bad ms o (codes "is") kinds.domain s (λ v h. h) refl refl why (get_member (codes "is") ms) refl e)
    (λ d text n p q. by_map ms s d text t (get_member (codes "map") ms) refl e n p (text_found (get_member (codes "is") ms) text q)))

-- ---- reshape, by which source there is

-- the one that is there, or the next ones
source_judged : (J : Result NewIndices Refusal → Type 0) (o : Option Data) (by : Data → Result NewIndices Refusal) (more : Result NewIndices Refusal) →
    ((v : Data) → o ≡ Some v → J (by v)) → (o ≡ None → J more) → J (option_map_or by o more)
source_judged J None by more here on = on refl
source_judged J (Some v) by more here on = here v refl

abbrev source_keys : List (List ℕ)
source_keys = codes "to" ∷ codes "slice" ∷ codes "translate" ∷ codes "expand" ∷ codes "or" ∷ codes "and" ∷ codes "minus" ∷ codes "xor" ∷ []

-- whether one of the keys is among those
has_one : List (List ℕ) → List (List ℕ) → Bool
has_one [] ks = false
has_one (k ∷ more) ks = if has k ks then true else has_one more ks

one_there : (more ks : List (List ℕ)) (ms : Members) → has_one more ks ≡ true → HasKeys ms (codes "op" ∷ ks) → AllKeys more (λ k. get_member k ms ≡ None) → ⊥
unfolding has_one
one_there [] ks ms e h n = absurd (cc)
one_there (k ∷ more) ks ms e h n = elim (has k ks) as (λ b. has k ks ≡ b → (if b then true else has_one more ks) ≡ true → ⊥) [
  | true ↦ λ f q. let x = key_there k ks ms f h in no_some x.0 (sym n.0 ∙ x.1)
  | false ↦ λ f q. one_there more ks ms q h n.1
] refl e

no_source : (ms : Members) → NamesOp ms (codes "reshape") → AllKeys source_keys (λ k. get_member k ms ≡ None) → IsWhole (object ms) → ⊥
unfolding has_one
no_source ms s n = not_whole_by ms (codes "reshape") s (λ ks c h. one_there source_keys ks ms (of_form (codes "reshape") ks (has_one source_keys) refl c) h n)

module _ (ms : Members) (s : NamesOp ms (codes "reshape")) (n : member_count ms ≡ 3) (named : Fine ms (codes "reshape") (codes "d")) where
  at_source : (k : List ℕ) {kind : Kind} {A : Type 0} {read : Option Data → Result A Refusal} → IsReader kind read → (K : A → NewIndices) →
      kind_of (codes "reshape") k ≡ Some kind → IsForm (codes "reshape", codes "d" ∷ k ∷ [])
      → apart (codes "op" ∷ codes "d" ∷ k ∷ []) ≡ true → (v : Data) → get_member k ms ≡ Some v → Judged {X = NewIndices} ms (read (Some v) >>= (λ a. Ok (K a)))
  at_source k {kind} {A} {read} r K kd c a v g =
      let o = codes "reshape" in let ks = codes "d" ∷ k ∷ [] in
      bind_judged (Judged {X = NewIndices} ms) (read (Some v)) (λ a. Ok (K a))
      (λ why e. value_bad ms o ks s c (whole_fine ms o ks s a n (named.0, ((v, g), tt))) k r kd v g why e
      (λ f same. (fine_above ms o (codes "d") f named, (same, tt))))
      (λ x e. all_fine ms o ks s c a n (named, (fine ms o k r kd x (ap read g ∙ e), tt)))

  sources_judged : Judged {X = NewIndices} ms (source_of (object ms))
  sources_judged =
      let o = codes "reshape" in
      source_judged (Judged {X = NewIndices} ms) (get_member (codes "to") ms) to_by _
      (λ v g. at_source (codes "to") source_reader To refl (form_at 5 (o, codes "d" ∷ codes "to" ∷ []) refl refl refl) refl v g) (λ a.
      source_judged (Judged {X = NewIndices} ms) (get_member (codes "slice") ms) slice_by _
      (λ v g. at_source (codes "slice") source_reader Slice refl (form_at 6 (o, codes "d" ∷ codes "slice" ∷ []) refl refl refl) refl v g) (λ b.
      source_judged (Judged {X = NewIndices} ms) (get_member (codes "translate") ms) (displace_by Translate) _
      (λ v g. at_source (codes "translate") offsets_reader (Displace Translate) refl (form_at 7 (o, codes "d" ∷ codes "translate" ∷ []) refl refl refl) refl v
      g) (λ c.
      source_judged (Judged {X = NewIndices} ms) (get_member (codes "expand") ms) (displace_by Expand) _
      (λ v g. at_source (codes "expand") offsets_reader (Displace Expand) refl (form_at 8 (o, codes "d" ∷ codes "expand" ∷ []) refl refl refl) refl v g) (λ d.
      source_judged (Judged {X = NewIndices} ms) (get_member (codes "or") ms) (combine_by Union) _
      (λ v g. at_source (codes "or") source_reader (Combine Union) refl (form_at 9 (o, codes "d" ∷ codes "or" ∷ []) refl refl refl) refl v g) (λ e.
      source_judged (Judged {X = NewIndices} ms) (get_member (codes "and") ms) (combine_by Intersection) _
      (λ v g. at_source (codes "and") source_reader (Combine Intersection) refl (form_at 10 (o, codes "d" ∷ codes "and" ∷ []) refl refl refl) refl v g) (λ f.
      source_judged (Judged {X = NewIndices} ms) (get_member (codes "minus") ms) (combine_by Difference) _
      (λ v g. at_source (codes "minus") source_reader (Combine Difference) refl (form_at 11 (o, codes "d" ∷ codes "minus" ∷ []) refl refl refl) refl v g) (λ g.
      source_judged (Judged {X = NewIndices} ms) (get_member (codes "xor") ms) (combine_by SymmetricDifference) _
      (λ v g. at_source (codes "xor") source_reader (Combine SymmetricDifference) refl (form_at 12 (o, codes "d" ∷ codes "xor" ∷ []) refl refl refl) refl v g)
      (λ h.
      first (object ms) BadRequest refl (not_whole refl (no_source ms s (a, (b, (c, (d, (e, (f, (g, (h, tt))))))))))))))))))

-- what a request is made of is judged as it is
made_judged : {X Y : Type 0} (d : Data) (r : Result X Refusal) (K : X → Y) → Judges d r → Judges d (r >>= (λ x. Ok (K x)))
made_judged d (Ok x) K j = j
made_judged d (Err why) K j = j

reshape_judged : IsJudged (codes "reshape") reshape_of
reshape_judged ms s =
    let o = codes "reshape" in
    one_judged (Judged ms) (has_fields 3 (object ms)) (name_field (codes "d") (object ms)) (λ d. source_of (object ms) >>= (λ y. Ok (of_command (Reshape d y))))
    (λ why. count_bad ms o 2 s refl why) (λ why. field_bad ms o (codes "d") s name_reader refl refl why)
    (λ d n p. made_judged (object ms) (source_of (object ms)) (λ y. of_command (Reshape d y))
    (sources_judged ms s (count_found ms 3 tt n) (fine ms o (codes "d") name_reader refl d p)))

-- ---- the ops without a field, or with one that may be missing

print_judged : IsJudged (codes "print") print_of
print_judged ms s =
    bind_judged (Judged ms) (has_fields 1 (object ms)) (λ u. Ok Print) (λ why. count_bad ms (codes "print") 0 s refl why)
    (λ u n. all_fine ms (codes "print") [] s (form_at 32 (codes "print", []) refl refl refl) refl (count_found ms 1 u n) tt)

edits_judged : IsJudged (codes "edits") edits_of
edits_judged ms s =
    bind_judged (Judged ms) (has_fields 1 (object ms)) (λ u. Ok Edits) (λ why. count_bad ms (codes "edits") 0 s refl why)
    (λ u n. all_fine ms (codes "edits") [] s (form_at 39 (codes "edits", []) refl refl refl) refl (count_found ms 1 u n) tt)

-- an op whose forms have no other member, or one
one_more_whole : (ms : Members) (o : List ℕ) → NamesOp ms o → list_all (passes o (λ ks. if nat_eq (length ks) 0 then true else nat_eq (length ks) 1)) forms ≡ true →
    (member_count ms ≡ 1 → ⊥) → (member_count ms ≡ 2 → ⊥) → IsWhole (object ms) → ⊥
one_more_whole ms o s all one two = not_whole_by ms o s (λ ks c h.
    let n = keys_counted (codes "op" ∷ ks) ms h in
    let p = of_form o ks (λ ks. if nat_eq (length ks) 0 then true else nat_eq (length ks) 1) all c in
    elim (nat_eq (length ks) 0) as (λ b. nat_eq (length ks) 0 ≡ b → (if b then true else nat_eq (length ks) 1) ≡ true → ⊥) [
      | true ↦ λ e q. one (n ∙ ap suc (eqb-true (length ks) 0 e))
      | false ↦ λ e q. two (n ∙ ap suc (eqb-true (length ks) 1 q))
    ] refl p)

-- the one that each longer form has
one_more_lacks : (ms : Members) (o k : List ℕ) → NamesOp ms o → list_all (passes o (λ ks. if has k ks then true else nat_eq (length ks) 0)) forms ≡ true →
    (member_count ms ≡ 1 → ⊥) → get_member k ms ≡ None → IsWhole (object ms) → ⊥
one_more_lacks ms o k s all one none = not_whole_by ms o s (λ ks c h.
    let p = of_form o ks (λ ks. if has k ks then true else nat_eq (length ks) 0) all c in
    elim (has k ks) as (λ b. has k ks ≡ b → (if b then true else nat_eq (length ks) 0) ≡ true → ⊥) [
      | true ↦ λ e q. let x = key_there k ks ms e h in no_some x.0 (sym none ∙ x.1)
      | false ↦ λ e q. one (keys_counted (codes "op" ∷ ks) ms h ∙ ap suc (eqb-true (length ks) 0 q))
    ] refl p)

undo_judged : IsJudged (codes "undo") undo_of
undo_judged ms s =
    let o = codes "undo" in
    elim (nat_eq (member_count ms) 1) as (λ b. nat_eq (member_count ms) 1 ≡ b → Judged ms (if b then Ok (Undo None) else undo_by_number (object ms))) [
      | true ↦ λ e. all_fine ms o [] s (form_at 24 (o, []) refl refl refl) refl (eqb-true (member_count ms) 1 e) tt
      | false ↦ λ e.
          let one : member_count ms ≡ 1 → ⊥ = λ q. true_false (sym (eq-eqb (member_count ms) 1 q) ∙ e) in
          one_judged (Judged ms) (has_fields 2 (object ms)) (u64_field (codes "k") (object ms)) (λ k. Ok (Undo (Some k)))
          (λ why f. let x = uncounted ms 2 why f in first (object ms) why x.0 (not_whole refl (one_more_whole ms o s refl one x.1)))
          (λ why f. field_bad_by ms o (codes "k") s number_reader refl (one_more_lacks ms o (codes "k") s refl one) why f)
          (λ k n p. all_fine ms o (codes "k" ∷ []) s (form_at 25 (o, codes "k" ∷ []) refl refl refl) refl (count_found ms 2 tt n)
          (fine ms o (codes "k") number_reader refl k p, tt))
    ] refl

history_judged : IsJudged (codes "history") history_of
history_judged ms s =
    let o = codes "history" in
    elim (nat_eq (member_count ms) 1) as (λ b. nat_eq (member_count ms) 1 ≡ b → Judged ms (if b then Ok (History None) else history_from (object ms))) [
      | true ↦ λ e. all_fine ms o [] s (form_at 33 (o, []) refl refl refl) refl (eqb-true (member_count ms) 1 e) tt
      | false ↦ λ e.
          let one : member_count ms ≡ 1 → ⊥ = λ q. true_false (sym (eq-eqb (member_count ms) 1 q) ∙ e) in
          one_judged (Judged ms) (has_fields 2 (object ms)) (u64_field (codes "from") (object ms)) (λ k. Ok (History (Some k)))
          (λ why f. let x = uncounted ms 2 why f in first (object ms) why x.0 (not_whole refl (one_more_whole ms o s refl one x.1)))
          (λ why f. field_bad_by ms o (codes "from") s number_reader refl (one_more_lacks ms o (codes "from") s refl one) why f)
          (λ k n p. all_fine ms o (codes "from" ∷ []) s (form_at 34 (o, codes "from" ∷ []) refl refl refl) refl (count_found ms 2 tt n)
          (fine ms o (codes "from") number_reader refl k p, tt))
    ] refl

-- ---- by the op

abbrev names : List Reader → List (List ℕ)
names [] = []
names (x ∷ xs) = x.0 ∷ names xs

abbrev AllJudged : List Reader → Type 0
AllJudged [] = Unit {0}
AllJudged (x ∷ xs) = IsJudged x.0 x.1 × AllJudged xs

first_judged : (xs : List Reader) → AllJudged xs → (ms : Members) (op : List ℕ) → NamesOp ms op → (IsWhole (object ms) → has op (names xs) ≡ true) →
    Judged ms (by_first xs op (object ms))
first_judged [] h ms op s k = first (object ms) BadRequest refl (not_whole refl (λ w. true_false (sym (k w))))
first_judged (x ∷ xs) h ms op s k = elim (bytes_eq op x.0) as
    (λ b. bytes_eq op x.0 ≡ b → Judged ms (if b then x.1 (object ms) else by_first xs op (object ms))) [
      | true ↦ λ is. h.0 ms (subst (NamesOp ms) (equal_key op x.0 is) s)
      | false ↦ λ is. first_judged xs h.1 ms op s (λ w. sym (ap (λ (b : Bool). if b then true else has op (names xs)) is) ∙ k w)
    ] refl

every_judged : AllJudged singles
every_judged = (
  domain_judged_of,
  (
    remap_judged,
    (
      sparse_judged,
      (
        assoc_judged,
        (
          drop_domain_judged,
          (
            reshape_judged,
            (
              add_judged,
              (
                remove_judged,
                (
                  load_judged,
                  (
                    explain_judged,
                    (
                      array_judged,
                      (
                        drop_array_judged,
                        (
                          set_judged,
                          (
                            fill_judged,
                            (
                              put_judged,
                              (
                                fill_all_judged,
                                (
                                  irv_judged,
                                  (
                                    copy_judged,
                                    (
                                      all_judged,
                                      (
                                        undo_judged,
                                        (
                                          redo_judged,
                                          (
                                            cascade_judged,
                                            (
                                              dependents_judged,
                                              (
                                                get_judged,
                                                (
                                                  where_judged,
                                                  (
                                                    size_judged,
                                                    (
                                                      piece_judged,
                                                      (
                                                        reduce_judged,
                                                        (state_judged, (note_judged, (print_judged, (history_judged, (edits_judged, tt))))),
                                                      ),
                                                    ),
                                                  ),
                                                ),
                                              ),
                                            ),
                                          ),
                                        ),
                                      ),
                                    ),
                                  ),
                                ),
                              ),
                            ),
                          ),
                        ),
                      ),
                    ),
                  ),
                ),
              ),
            ),
          ),
        ),
      ),
    ),
  ),
)

-- the op of each form has a reader, but for that of a transaction
abbrev is_single : List ℕ × List (List ℕ) → Bool
is_single x = if bytes_eq x.0 (codes "transaction") then true else has x.0 (names singles)

is_read : (ms : Members) (op : List ℕ) → NamesOp ms op → bytes_eq op (codes "transaction") ≡ false → IsWhole (object ms) → has op (names singles) ≡ true
is_read ms op s other w = elim (has op (names singles)) as (λ b. has op (names singles) ≡ b → b ≡ true) [
  | true ↦ λ e. refl
  | false ↦ λ e. absurd (not_whole_by ms op s (λ ks c h.
      true_false (sym (All-contains (λ x. is_single x ≡ true) forms (op, ks) (AllPass-from_list_all is_single forms refl) c)
      ∙ ap (λ (b : Bool). if b then true else has op (names singles)) other ∙ e)) w)
] refl

pub no_op : (ms : Members) (why : Refusal) (v : Option Data) → get_member (codes "op") ms ≡ v → text_in v ≡ Err why → Refused (object ms) why
no_op ms why v g e = first (object ms) why (text_in_only v why e) (not_whole refl (λ w. no_err (sym (named w.0 w.1 (members_same ms w.0 w.3) w.4) ∙ e)))
  where
    text_in_only : (v : Option Data) (why : Refusal) → text_in v ≡ Err why → why ≡ BadRequest
    text_in_only v why e = or_only (option_and_then as_str v) BadRequest why e

    named : (ns : Members) (op : List ℕ) → ms ≡ ns → NamesOp ns op → text_in v ≡ Ok op
    named ns op m t = text_read v op (sym g ∙ subst (λ ms. NamesOp ms op) (sym m) t)

-- an object of any op but that of a transaction
pub single_judged : (ms : Members) (op : List ℕ) → NamesOp ms op → bytes_eq op (codes "transaction") ≡ false → Judged ms (by_single_op op (object ms))
single_judged ms op s other = first_judged singles every_judged ms op s (is_read ms op s other)

pub no_object : (d : Data) → ((ms : Members) → d ≡ object ms → ⊥) → Refused d BadRequest
no_object d h = first d BadRequest refl (not_whole refl (λ w. h w.0 w.3))
