-- Members that spell literals: what is read of them is what they spell, and the other way round.
use Rattle.std.proofs.Common.{◌≡◌, ℕ, ◌+◌, ℤ, Bool, true, false, ◌&&◌, List, [], ◌∷◌, length, Option, Some, None, option_map, option_and_then, Result, Ok, Err}
use Rattle.std.proofs.Common.{refl, sym, ap, ◌∙◌, subst, nat_eq, nat_le, if◌then◌else◌, eq-eqb, eqb-true, arith}
use Rattle.std.specs.Option.{ok_or}
use Rattle.std.specs.List.{list_all}
use Rattle.serde_json.specs.Data.{Data, string, object, Members}
use Rattle.serde_json.specs.Find.{as_str}
use Rattle.wb_dist.specs.Maps.{LayoutMap, whole}
use Rattle.wb_cells.specs.Names.{is_name, is_letter, is_name_part}
use Rattle.wb_cells.specs.Shapes.{Range}
use Rattle.wb_cells.specs.declared.values.index.Index.{Index}
use Rattle.wb_cells.specs.declared.values.index.Index.TheVariants.{Point, Text}
use Rattle.wb_edit.specs.declared.refusal.Refusal.TheVariants.{BadRequest, BadLiteral}
use Rattle.wb_literals.specs.Domain.{Domain, rectangle, set, domain_of}
use Rattle.wb_literals.specs.Mapping.{mapping_of}
use Rattle.wb_literals.specs.Grammar as grammar
use Rattle.wb_literals.specs.Set.{Items as Listed, nothing, integers, pairs, triples, texts}
use Rattle.wb_literals.specs.declared.mapping.MappingLiteral.{MappingLiteral}
use Rattle.wb_literals.specs.declared.mapping.MappingLiteral.TheVariants.{Whole}
use Rattle.wb_literals.specs.declared.rectangle.RectangleLiteral.{RectangleLiteral}
use Rattle.wb_literals.proofs.SetGrammar.{domain_exact}
use Rattle.wb_literals.proofs.MappingGrammar.{mapping_exact}
use Rattle.wb_literals.specs.Limits.Literals as limits
use Rattle.wb_literals.specs.Limits.Mappings as mapping_limits
use Rattle.wb_literals.specs.declared.limits.limit.LimitErr.{LimitErr}
use Rattle.wb_reshape.specs.Sources.{ascending}
use Rattle.wb_reshape.specs.declared.operand.Operand.{Operand}
use Rattle.wb_reshape.specs.declared.operand.Operand.TheVariants.{Rectangle, Items, Named}
use Rattle.wb_requests.specs.Fields.{member_count, has_fields, has_fields_and, text_if_there, name_of, index_of}
use Rattle.wb_requests.specs.Literals.{literal_domain, literal_mapping, optional_mapping as mapping_if_there, text_of_book, within, domain_within, mapping_within}
use Rattle.wb_requests.specs.Sources.{is_braced, given_within, given_literal, given_name, given_text, given_by, point_in, offsets_by}
use Rattle.wb_text.specs.Texts.Books.{is_book_text}
use Rattle.wb_requests.specs.Wire.Table.{optional_mapping}
use Rattle.wb_requests.specs.Wire.Spelled.{IsIndex, IsOperand, IsMapping, Says}
use Rattle.wb_requests.proofs.OnTheWire.Members.{there}
use Rattle.wb_requests.proofs.OnTheWire.Values.{step, ok_same, no_ok, some_same, no_some, some_of_ok, some_step, str_found, chosen, mapped, index_found_of, index_read_of}

-- ---- how many members

pub count_found : (ms : Members) (n : ℕ) (u : Unit {0}) → has_fields n (object ms) ≡ Ok u → member_count ms ≡ n
count_found ms n u e = eqb-true (member_count ms) n (chosen (nat_eq (member_count ms) n) tt u e).0

pub count_read : (ms : Members) (n : ℕ) → member_count ms ≡ n → has_fields n (object ms) ≡ Ok tt
count_read ms n e = rw (eq-eqb (member_count ms) n e) refl

-- ---- literals

within_found : {X : Type 0} (r : Result X LimitErr) (x : X) → within r ≡ Ok x → r ≡ Ok x
within_found (Ok y) x e = ap Ok (ok_same y x e)
within_found (Err why) x e = absurd (cc)

pub domain_found : (text : List ℕ) (l : Domain) → literal_domain text ≡ Ok l → grammar.IsDomain text l
domain_found text l e = (domain_exact text l).0 (some_of_ok (domain_of text) BadLiteral l e)

pub domain_read : (text : List ℕ) (l : Domain) → grammar.IsDomain text l → literal_domain text ≡ Ok l
domain_read text l h = rw ((domain_exact text l).1 h) refl

pub rectangle_found : (r : RectangleLiteral) (ranges : List Range) → domain_within r ≡ Ok ranges → limits.domain_within r ≡ Ok ranges
rectangle_found r ranges e = within_found (limits.domain_within r) ranges e

pub rectangle_read : (r : RectangleLiteral) (ranges : List Range) → limits.domain_within r ≡ Ok ranges → domain_within r ≡ Ok ranges
rectangle_read r ranges e = rw e refl

-- ---- what is given

given_by_literal : (text : List ℕ) (l : Domain) (g : Operand) → grammar.IsDomain text l → given_within l ≡ Ok g → IsOperand (string text) g
given_by_literal text (rectangle r) g h e =
    let x = step (domain_within r) (λ ranges. Ok (Rectangle ranges)) g e in
    subst (IsOperand (string text)) (ok_same (Rectangle x.0) g x.2) (text, r, refl, h, rectangle_found r x.0 x.1)
given_by_literal text (set listed) g h e = subst (IsOperand (string text)) (ok_same (Items (ascending (limits.listed_in listed))) g e)
    (text, listed, refl, h, refl)

given_by_name : (text : List ℕ) (g : Operand) → given_name text ≡ Ok g → IsOperand (string text) g
given_by_name text g e =
    let x = step (name_of text) (λ n. Ok (Named n)) g e in
    let k = chosen (is_name text) text x.0 x.1 in
    subst (IsOperand (string text)) (ok_same (Named x.0) g x.2) (ap string k.1, ap is_name (sym k.1) ∙ k.0)

given_by_text : (text : List ℕ) (g : Operand) (b : Bool) → (if b then given_literal text else given_name text) ≡ Ok g → IsOperand (string text) g
given_by_text text g true e = let x = step (literal_domain text) given_within g e in given_by_literal text x.0 g (domain_found text x.0 x.1) x.2
given_by_text text g false e = given_by_name text g e

pub given_found : (d : Data) (g : Operand) → given_by d ≡ Ok g → IsOperand d g
given_found d g e =
    let x = step (ok_or (as_str d) BadRequest) given_text g e in
    subst (λ d. IsOperand d g) (sym (str_found d x.0 (some_of_ok (as_str d) BadRequest x.0 x.1))) (given_by_text x.0 g (is_braced x.0) x.2)

set_braced : (text : List ℕ) (listed : Listed) → grammar.IsSet text listed → is_braced text ≡ true
set_braced text nothing h = ap is_braced h.2
set_braced text (integers is) h = ap is_braced h.6
set_braced text (pairs ps) h = ap is_braced h.6
set_braced text (triples ts) h = ap is_braced h.6
set_braced text (texts ls) h = ap is_braced h.6

and_parts : (a b : Bool) → a && b ≡ true → (a ≡ true) × (b ≡ true)
and_parts true b e = (refl, e)
and_parts false b e = absurd (cc)

name_unbraced : (n : List ℕ) → is_name n ≡ true → is_braced n ≡ false
name_unbraced [] h = refl
name_unbraced (c ∷ cs) h = elim (nat_eq c 123) as (λ b. nat_eq c 123 ≡ b → b ≡ false) [
  | true ↦ λ e.
      let few = and_parts (nat_le (length cs) 31 && is_letter c) (list_all is_name_part cs) h in
      let letter = and_parts (nat_le (length cs) 31) (is_letter c) few.0 in
      let f = sym (ap is_letter (eqb-true c 123 e)) ∙ letter.1 in
      absurd (cc)
  | false ↦ λ e. refl
] refl

pub given_read : (d : Data) (g : Operand) → IsOperand d g → given_by d ≡ Ok g
given_read d (Rectangle ranges) h =
    rw (h.2, ap is_braced h.3.6, domain_read h.0 (rectangle h.1) h.3, rectangle_read h.1 ranges h.4) refl
given_read d (Items is) h = rw (h.2, set_braced h.0 h.1 h.3, domain_read h.0 (set h.1) h.3) (ap (λ x. Ok (Items x)) h.4)
given_read d (Named n) h = rw (h.0, name_unbraced n h.1, h.1) refl

-- ---- mappings

pub mapping_found : (text : List ℕ) (l : MappingLiteral) (m : LayoutMap) → literal_mapping text ≡ Ok l → mapping_within l ≡ Ok m → IsMapping (string text) m
mapping_found text l m e f = (
  text,
  l,
  refl,
  (mapping_exact text l).0 (some_of_ok (mapping_of text) BadLiteral l e),
  within_found (mapping_limits.mapping_within l) m f,
)

pub literal_read : (text : List ℕ) (l : MappingLiteral) → grammar.IsMapping text l → literal_mapping text ≡ Ok l
literal_read text l h = rw ((mapping_exact text l).1 h) refl

pub mapping_read : (l : MappingLiteral) (m : LayoutMap) → mapping_limits.mapping_within l ≡ Ok m → mapping_within l ≡ Ok m
mapping_read l m e = rw e refl

-- ---- the text of a workbook

book_chosen : (b : Bool) (x y : List ℕ) → (if b then Ok x else Err BadLiteral) ≡ Ok y → (b ≡ true) × (x ≡ y)
book_chosen true x y e = (refl, ok_same x y e)
book_chosen false x y e = no_ok BadLiteral y e

pub book_found : (text t : List ℕ) → text_of_book text ≡ Ok t → (◌≡◌ {A = Data} (string text) (string t)) × (is_book_text t ≡ true)
book_found text t e = let k = book_chosen (is_book_text text) text t e in (ap string k.1, ap is_book_text (sym k.1) ∙ k.0)

-- ---- a member that may be missing

pub optional_found : (o : Option Data) (t : Option (List ℕ)) (l : MappingLiteral) (m : LayoutMap) → text_if_there o ≡ Ok t → mapping_if_there t ≡ Ok l →
    mapping_within l ≡ Ok m → Says o (optional_mapping m)
optional_found None t l m e f g =
    let none : None ≡ t = ok_same None t e in
    let whole_is : Whole ≡ l = ok_same Whole l (ap mapping_if_there none ∙ f) in
    sym (ok_same whole m (ap mapping_within whole_is ∙ g))
optional_found (Some d) t l m e f g =
    let x = mapped Some (as_str d) t (some_of_ok (option_map Some (as_str d)) BadRequest t e) in
    subst (λ d. IsMapping d m) (sym (str_found d x.0 x.1)) (mapping_found x.0 l m (ap mapping_if_there x.2 ∙ f) g)

pub optional_count : (o : Option Data) (t : Option (List ℕ)) (ms : Members) (u : Unit {0}) → text_if_there o ≡ Ok t → has_fields_and 3 t (object ms) ≡ Ok u →
    3 + there o ≡ member_count ms
optional_count None t ms u e f = let n = count_found ms 3 u (ap (λ t. has_fields_and 3 t (object ms)) (ok_same None t e) ∙ f) in omega (arith, n)
optional_count (Some d) t ms u e f =
    let x = mapped Some (as_str d) t (some_of_ok (option_map Some (as_str d)) BadRequest t e) in
    let n = count_found ms 4 u (ap (λ t. has_fields_and 3 t (object ms)) x.2 ∙ f) in
    omega (arith, n)

-- how a member that may be missing is read
pub record IsOptional (o : Option Data) (ms : Members) (m : LayoutMap) : Type 0 where
  pub text : Option (List ℕ)
  pub literal : MappingLiteral
  pub found : text_if_there o ≡ Ok text
  pub counted : 3 + there o ≡ member_count ms → has_fields_and 3 text (object ms) ≡ Ok tt
  pub spelled : mapping_if_there text ≡ Ok literal
  pub within : mapping_within literal ≡ Ok m

pub optional_read : (o : Option Data) (ms : Members) (m : LayoutMap) → Says o (optional_mapping m) → IsOptional o ms m
optional_read None ms m s = record {
  text = None;
  literal = Whole;
  found = refl;
  counted = λ n. count_read ms 3 (omega (arith, n));
  spelled = refl;
  within =
      ap Ok (sym s);
}
optional_read (Some d) ms m s = record {
  text = Some s.0;
  literal = s.1;
  found = rw s.2 refl;
  counted = λ n. count_read ms 4 (omega (arith, n));
  spelled = literal_read s.0 s.1 s.3;
  within = mapping_read s.1 m s.4;
}

-- ---- offsets

point_found : (i : Index) (is : List ℤ) → point_in i ≡ Some is → i ≡ Point is
point_found (Point js) is e = ap Point (some_same js is e)
point_found (Text t) is e = no_some is e

pub offsets_found : (d : Data) (is : List ℤ) → offsets_by d ≡ Ok is → IsIndex d (Point is)
offsets_found d is e =
    let x = some_step (index_of d) point_in is (some_of_ok (option_and_then point_in (index_of d)) BadRequest is e) in
    index_found_of d (Point is) (x.1 ∙ ap Some (point_found x.0 is x.2))

pub offsets_read : (d : Data) (is : List ℤ) → IsIndex d (Point is) → offsets_by d ≡ Ok is
offsets_read d is s = rw (index_read_of d (Point is) s) refl
