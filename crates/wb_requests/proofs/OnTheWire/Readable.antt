-- The negative integers of a JSON value that was read are of 64 bits.
use Rattle.std.proofs.Common.{◌≡◌, ◌==◌, ◌^◌, ℕ, ℤ, pos, slice_index, drop, Bool, true, false, ◌&&◌, nat_lt, nat_le, List, Option, Some, None, option_map}
use Rattle.std.proofs.Common.{option_and_then, refl, subst, if◌then◌else◌, ltb-true}
use Rattle.std.proofs.lemmas.Bool.{leb-true, and_parts}
use Rattle.std.specs.declared.cmp.Ordering.{Ordering}
use Rattle.std.specs.declared.cmp.Ordering.TheVariants.{Less, Equal, Greater}
use Rattle.std.specs.Ordering.{nat_cmp, match_ordering}
use Rattle.std.specs.Cmp.Lexicographic.{slice_cmp}
use Rattle.std.specs.Float.{binary64, float_is_finite}
use Rattle.fast_float.specs.Text.{minus, Parts, scan, digits_of, nearest, with_sign}
use Rattle.json.specs.Json as json
use Rattle.json.specs.Lex.{tokens}
use Rattle.serde_json.specs.Data.{Num, unsigned, negative, float, Data, null, boolean, number, string, array, object, Items, no_items, item, Members}
use Rattle.serde_json.specs.Data.{no_members, member, put}
use Rattle.serde_json.specs.Find.{get_member, as_i64}
use Rattle.serde_json.specs.Read.{is_integer, float_of, number_from, number_of, of_json, of_items, of_members, max_depth, read}
use Rattle.wb_literals.specs.Integer.{IsWithin}
use Rattle.wb_requests.proofs.OnTheWire.Listed.{lowest}

abbrev pub IsFitNumber : Num → Type 0
IsFitNumber (unsigned n) = Unit {0}
IsFitNumber (negative z) = IsWithin z
IsFitNumber (float x) = Unit {0}

abbrev mutual
  pub IsFit : Data → Type 0
  IsFit null = Unit {0}
  IsFit (boolean b) = Unit {0}
  IsFit (number n) = IsFitNumber n
  IsFit (string s) = Unit {0}
  IsFit (array ds) = AreFitItems ds
  IsFit (object ms) = AreFit ms

  pub AreFitItems : Items → Type 0
  AreFitItems no_items = Unit {0}
  AreFitItems (item d ds) = IsFit d × AreFitItems ds

  pub AreFit : Members → Type 0
  AreFit no_members = Unit {0}
  AreFit (member k d ms) = IsFit d × AreFit ms

-- ---- options

some_is : {X : Type 0} (x y : X) → Some x ≡ Some y → x ≡ y
some_is x y e = cc

none_is : {X Y : Type 0} (x : X) → None ≡ Some x → Y
none_is x e = cc

of_map : {X Y : Type 0} (f : X → Y) (P : Y → Type 0) (o : Option X) (y : Y) → option_map f o ≡ Some y → ((x : X) → o ≡ Some x → P (f x)) → P y
of_map f P None y e k = none_is y e
of_map f P (Some x) y e k = subst P (some_is (f x) y e) (k x refl)

of_next : {X Y : Type 0} (next : X → Option Y) (P : Y → Type 0) (o : Option X) (y : Y) → option_and_then next o ≡ Some y
    → ((x : X) → o ≡ Some x → next x ≡ Some y → P y) → P y
of_next next P None y e k = none_is y e
of_next next P (Some x) y e k = k x refl e

-- ---- numbers

float_by : (b : Bool) (x : Num) (n : Num) → IsFitNumber x → (if b then Some x else None) ≡ Some n → IsFitNumber n
float_by true x n h e = subst IsFitNumber (some_is x n e) h
float_by false x n h e = none_is n e

float_fits : (sign : Bool) (p : Parts) (n : Num) → float_of sign p ≡ Some n → IsFitNumber n
float_fits sign p n e = float_by (float_is_finite (nearest binary64 sign p)) (float (nearest binary64 sign p)) n tt e

negative_fits : (p : Parts) (n : Num) (b : Bool) → (is_integer p && nat_lt 0 (digits_of p) && nat_le (digits_of p) (2 ^ 63)) ≡ b
    → (if b then Some (negative (with_sign true (digits_of p))) else float_of true p) ≡ Some n → IsFitNumber n
negative_fits p n true t e =
    let both = and_parts (is_integer p && nat_lt 0 (digits_of p)) (nat_le (digits_of p) (2 ^ 63)) t in
    subst IsFitNumber (some_is (negative (with_sign true (digits_of p))) n e) (lowest (digits_of p) (leb-true (digits_of p) (2 ^ 63) both.1))
negative_fits p n false t e = float_fits true p n e

unsigned_fits : (p : Parts) (n : Num) (b : Bool) → (if b then Some (unsigned (digits_of p)) else float_of false p) ≡ Some n → IsFitNumber n
unsigned_fits p n true e = subst IsFitNumber (some_is (unsigned (digits_of p)) n e) tt
unsigned_fits p n false e = float_fits false p n e

from_fits : (sign : Bool) (p : Parts) (n : Num) → number_from sign p ≡ Some n → IsFitNumber n
from_fits false p n e = unsigned_fits p n (is_integer p && nat_lt (digits_of p) (2 ^ 64)) e
from_fits true p n e = negative_fits p n (is_integer p && nat_lt 0 (digits_of p) && nat_le (digits_of p) (2 ^ 63)) refl e

signed_fits : (b : Bool) (p q : Parts) (n : Num) → (if b then number_from true p else number_from false q) ≡ Some n → IsFitNumber n
signed_fits true p q n e = from_fits true p n e
signed_fits false p q n e = from_fits false q n e

number_fits : (s : List ℕ) (n : Num) → number_of s ≡ Some n → IsFitNumber n
unfolding number_of
number_fits s n e = signed_fits (slice_index s 0 == minus) (scan (drop 1 s)) (scan s) n e

-- ---- values

put_by : (o : Ordering) (k l : List ℕ) (d e : Data) (ms : Members) → IsFit d → IsFit e → AreFit ms → AreFit (put k d ms)
    → AreFit (match_ordering o (member k d (member l e ms)) (member l d ms) (member l e (put k d ms)))
put_by Less k l d e ms h g all more = (h, (g, all))
put_by Equal k l d e ms h g all more = (h, all)
put_by Greater k l d e ms h g all more = (g, more)

put_fits : (k : List ℕ) (d : Data) (ms : Members) → IsFit d → AreFit ms → AreFit (put k d ms)
put_fits k d no_members h all = (h, tt)
put_fits k d (member l e ms) h all = put_by (slice_cmp nat_cmp k l) k l d e ms h all.0 all.1 (put_fits k d ms h all.1)

mutual
  json_fits : (j : json.Json) (d : Data) → of_json j ≡ Some d → IsFit d
  json_fits json.null d e = subst IsFit (some_is null d e) tt
  json_fits (json.boolean b) d e = subst IsFit (some_is (boolean b) d e) tt
  json_fits (json.number s) d e = of_map number IsFit (number_of s) d e (λ n h. number_fits s n h)
  json_fits (json.string s) d e = subst IsFit (some_is (string s) d e) tt
  json_fits (json.array js) d e = of_map array IsFit (of_items js) d e (λ ds h. items_fit js ds h)
  json_fits (json.object ms) d e = of_map object IsFit (of_members ms no_members) d e (λ found h. members_fit ms no_members found tt h)

  items_fit : (js : json.Items) (ds : Items) → of_items js ≡ Some ds → AreFitItems ds
  items_fit json.no_items ds e = subst AreFitItems (some_is no_items ds e) tt
  items_fit (json.item j js) ds e = of_next (λ d. option_map (item d) (of_items js)) AreFitItems (of_json j) ds e
      (λ d h f. of_map (item d) AreFitItems (of_items js) ds f (λ more g. (json_fits j d h, items_fit js more g)))

  members_fit : (ms : json.Members) (before found : Members) → AreFit before → of_members ms before ≡ Some found → AreFit found
  members_fit json.no_members before found all e = subst AreFit (some_is before found e) all
  members_fit (json.member k j ms) before found all e = of_next (λ d. of_members ms (put k d before)) AreFit (of_json j) found e
      (λ d h f. members_fit ms (put k d before) found (put_fits k d before (json_fits j d h) all) f)

pub read_fits : (text : List ℕ) (d : Data) → read text ≡ Some d → IsFit d
read_fits text d e = of_next of_json IsFit (option_and_then (λ p. json.if_last p.0 p.1) (json.value max_depth (tokens text))) d e (λ j h f. json_fits j d f)

-- ---- members and integers

by_order : (o : Ordering) (e v : Data) (more : Option Data) → match_ordering o more (Some e) more ≡ Some v → IsFit e → (more ≡ Some v → IsFit v) → IsFit v
by_order Less e v more f h k = k f
by_order Equal e v more f h k = subst IsFit (some_is e v f) h
by_order Greater e v more f h k = k f

pub member_fits : (k : List ℕ) (ms : Members) (v : Data) → AreFit ms → get_member k ms ≡ Some v → IsFit v
member_fits k no_members v all e = none_is v e
member_fits k (member l d ms) v all e = by_order (slice_cmp nat_cmp k l) d v (get_member k ms) e all.0 (λ f. member_fits k ms v all.1 f)

small_by : (b : Bool) (n : ℕ) (z : ℤ) → nat_lt n (2 ^ 63) ≡ b → (if b then Some (pos n) else None) ≡ Some z → IsWithin z
small_by true n z t e = subst IsWithin (some_is (pos n) z e) (ltb-true n (2 ^ 63) t)
small_by false n z t e = none_is z e

number_within : (n : Num) (z : ℤ) → IsFitNumber n → as_i64 n ≡ Some z → IsWithin z
number_within (unsigned n) z h e = small_by (nat_lt n (2 ^ 63)) n z refl e
number_within (negative w) z h e = subst IsWithin (some_is w z e) h
number_within (float x) z h e = none_is z e

pub integer_within : (d : Data) (n : Num) (z : ℤ) → IsFit d → d ≡ number n → as_i64 n ≡ Some z → IsWithin z
integer_within d n z h is e = number_within n z (subst IsFit is h) e
