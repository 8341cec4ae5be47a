-- Each kind of field: what is read of it is what its value spells, and the other way round.
use Rattle.std.proofs.Common.{◌≡◌, ℕ, ℤ, Bool, true, false, List, [], ◌∷◌, codes, Option, Some, None, option_map, option_and_then, Result, Ok, Err, refl, sym}
use Rattle.std.proofs.Common.{ap, ◌∙◌, subst, if◌then◌else◌}
use Rattle.std.specs.Prelude.{bytes_eq}
use Rattle.std.specs.Option.{ok_or}
use Rattle.std.proofs.lemmas.Slice.Eq.{bytes_eq-Decides}
use Rattle.serde_json.specs.Data.{Num, Data, null, boolean, number as json_number, string, array, object, Items as JsonItems, no_items, item}
use Rattle.serde_json.specs.Find.{as_number, as_str, as_i64, as_u64}
use Rattle.wb_sets.specs.Labels.{is_label}
use Rattle.wb_cells.specs.Cells.{Name}
use Rattle.wb_cells.specs.Names.{is_name}
use Rattle.wb_cells.specs.declared.values.index.Index.{Index}
use Rattle.wb_cells.specs.declared.values.index.Index.TheVariants.{Point, Text}
use Rattle.wb_cells.specs.declared.cells.kind.KeyType.{KeyType}
use Rattle.wb_cells.specs.declared.cells.kind.KeyType.TheVariants as types
use Rattle.wb_edit.specs.declared.operation.Operation.{Operation}
use Rattle.wb_edit.specs.declared.operation.Operation.TheVariants as operations
use Rattle.wb_edit.specs.declared.refusal.Refusal.{Refusal}
use Rattle.wb_edit.specs.declared.refusal.Refusal.TheVariants.{BadRequest}
use Rattle.wb_arrays.specs.declared.reduction.Op.{Op}
use Rattle.wb_arrays.specs.declared.reduction.Op.TheVariants as reductions
use Rattle.wb_requests.specs.Fields.{◌>>=◌, name_of, integer_of, integers_listed, integers_of, pair_of, triple_of, tuple_of, index_of}
use Rattle.wb_requests.specs.Fields.{key_type_of, operation_of, reduction_of}
use Rattle.wb_requests.specs.Wire.Table.{Meaning, word, name, integer, number, index, type_word, operation_word, reduction_word}
use Rattle.wb_requests.specs.Wire.Spelled.{IsInteger, AreIntegers, IsIntegers, IsIndex, Spells, Says}

-- ---- steps

-- where both steps are taken, each is
pub step : {X Y : Type 0} (r : Result X Refusal) (next : X → Result Y Refusal) (y : Y) → (r >>= next) ≡ Ok y → (x : X) × (r ≡ Ok x) × (next x ≡ Ok y)
step (Ok x) next y e = (x, refl, e)
step (Err why) next y e = absurd (cc)

pub ok_same : {X : Type 0} (x y : X) → ◌≡◌ {A = Result X Refusal} (Ok x) (Ok y) → x ≡ y
ok_same x y e = cc

pub some_of_ok : {X : Type 0} (o : Option X) (why : Refusal) (x : X) → ok_or o why ≡ Ok x → o ≡ Some x
some_of_ok None why x e = absurd (cc)
some_of_ok (Some y) why x e = ap Some (ok_same y x e)

pub some_same : {X : Type 0} (x y : X) → Some x ≡ Some y → x ≡ y
some_same x y e = cc

pub no_some : {X Y : Type 0} (x : X) → None ≡ Some x → Y
no_some x e = cc

pub no_ok : {X Y : Type 0} (why : Refusal) (x : X) → ◌≡◌ {A = Result X Refusal} (Err why) (Ok x) → Y
no_ok why x e = cc

-- ---- texts

abbrev pub text_in : Option Data → Result (List ℕ) Refusal
text_in o = ok_or (option_and_then as_str o) BadRequest

pub str_found : (d : Data) (t : List ℕ) → as_str d ≡ Some t → d ≡ string t
str_found null t e = no_some t e
str_found (boolean b) t e = no_some t e
str_found (json_number n) t e = no_some t e
str_found (string s) t e = ap string (some_same s t e)
str_found (array ds) t e = no_some t e
str_found (object ms) t e = no_some t e

pub text_found : (o : Option Data) (t : List ℕ) → text_in o ≡ Ok t → o ≡ Some (string t)
text_found None t e = no_ok BadRequest t e
text_found (Some d) t e = ap Some (str_found d t (some_of_ok (as_str d) BadRequest t e))

pub text_read : (o : Option Data) (t : List ℕ) → o ≡ Some (string t) → text_in o ≡ Ok t
text_read o t e = ap text_in e

-- a member by its value
pub valued : (o : Option Data) (v : Data) (x : Meaning) → o ≡ Some v → Spells v x → Says o x
valued o v x e s = rw e s

-- a member that spells a text
pub says_text : (o : Option Data) (x : Meaning) (t : List ℕ) → o ≡ Some (string t) → Says (Some (string t)) x → Says o x
says_text o x t e s = rw e s

-- ---- names

pub chosen : {X : Type 0} (b : Bool) (x y : X) → (if b then Ok x else Err BadRequest) ≡ Ok y → (b ≡ true) × (x ≡ y)
chosen true x y e = (refl, ok_same x y e)
chosen false x y e = no_ok BadRequest y e

pub name_found : (o : Option Data) (n : Name) → (text_in o >>= name_of) ≡ Ok n → Says o (name n)
name_found o n e =
    let t = step (text_in o) name_of n e in
    let k = chosen (is_name t.0) t.0 n t.2 in
    says_text o (name n) t.0 (text_found o t.0 t.1) (ap string k.1, ap is_name (sym k.1) ∙ k.0)

pub name_read : (o : Option Data) (n : Name) → Says o (name n) → (text_in o >>= name_of) ≡ Ok n
name_read None n s = absurd s
name_read (Some d) n s = rw (s.0, s.1) refl

-- ---- words

pub word_found : (o : Option Data) (w : List ℕ) → text_in o ≡ Ok w → Says o (word w)
word_found o w e = rw (text_found o w e) refl

pub word_read : (o : Option Data) (w : List ℕ) → Says o (word w) → text_in o ≡ Ok w
word_read None w s = absurd s
word_read (Some d) w s = rw s refl

type_word_of : (text : List ℕ) (t : KeyType) → key_type_of text ≡ Ok t → text ≡ type_word t
type_word_of text t e = elim (bytes_eq text (codes "int")) as
    (λ b. bytes_eq text (codes "int") ≡ b → (if b then Ok types.Int else if bytes_eq text (codes "text") then Ok types.Text else Err BadRequest) ≡ Ok t →
    text ≡ type_word t) [
      | true ↦ λ h f. (bytes_eq-Decides text (codes "int")).0 h ∙ ap type_word (ok_same types.Int t f)
      | false ↦ λ h f. let k = chosen (bytes_eq text (codes "text")) types.Text t f in (bytes_eq-Decides text (codes "text")).0 k.0 ∙ ap type_word k.1
    ] refl e

pub type_found : (o : Option Data) (t : KeyType) → (text_in o >>= key_type_of) ≡ Ok t → Says o (word (type_word t))
type_found o t e =
    let s = step (text_in o) key_type_of t e in
    rw (text_found o s.0 s.1) (ap string (type_word_of s.0 t s.2))

type_of_word : (t : KeyType) → key_type_of (type_word t) ≡ Ok t
type_of_word types.Int = refl
type_of_word types.Text = refl

pub type_read : (o : Option Data) (t : KeyType) → Says o (word (type_word t)) → (text_in o >>= key_type_of) ≡ Ok t
type_read o t s = ap (λ r. r >>= key_type_of) (word_read o (type_word t) s) ∙ type_of_word t

-- what is tested for a word and is that, or goes on
tested : {X : Type 0} (text w : List ℕ) (x y : X) (more : Result X Refusal) (P : Type 0) → (if bytes_eq text w then Ok x else more) ≡ Ok y →
    (text ≡ w → x ≡ y → P) → (more ≡ Ok y → P) → P
tested text w x y more P e here on = elim (bytes_eq text w) as (λ b. bytes_eq text w ≡ b → (if b then Ok x else more) ≡ Ok y → P) [
  | true ↦ λ h f. here ((bytes_eq-Decides text w).0 h) (ok_same x y f)
  | false ↦ λ h f. on f
] refl e

operation_word_of : (text : List ℕ) (how : Operation) → operation_of text ≡ Ok how → text ≡ operation_word how
operation_word_of text how e =
    tested text (codes "=") operations.Assign how _ (text ≡ operation_word how) e (λ t h. t ∙ ap operation_word h) (λ e.
    tested text (codes "+") operations.Sum how _ (text ≡ operation_word how) e (λ t h. t ∙ ap operation_word h) (λ e.
    tested text (codes "-") operations.Difference how _ (text ≡ operation_word how) e (λ t h. t ∙ ap operation_word h) (λ e.
    tested text (codes "*") operations.Product how _ (text ≡ operation_word how) e (λ t h. t ∙ ap operation_word h) (λ e.
    no_ok BadRequest how e))))

pub operation_found : (o : Option Data) (how : Operation) → (text_in o >>= operation_of) ≡ Ok how → Says o (word (operation_word how))
operation_found o how e =
    let s = step (text_in o) operation_of how e in
    rw (text_found o s.0 s.1) (ap string (operation_word_of s.0 how s.2))

operation_of_word : (how : Operation) → operation_of (operation_word how) ≡ Ok how
operation_of_word operations.Assign = refl
operation_of_word operations.Sum = refl
operation_of_word operations.Difference = refl
operation_of_word operations.Product = refl

pub operation_read : (o : Option Data) (how : Operation) → Says o (word (operation_word how)) → (text_in o >>= operation_of) ≡ Ok how
operation_read o how s = ap (λ r. r >>= operation_of) (word_read o (operation_word how) s) ∙ operation_of_word how

reduction_word_of : (text : List ℕ) (how : Op) → reduction_of text ≡ Ok how → text ≡ reduction_word how
reduction_word_of text how e =
    tested text (codes "+") reductions.Sum how _ (text ≡ reduction_word how) e (λ t h. t ∙ ap reduction_word h) (λ e.
    tested text (codes "min") reductions.Min how _ (text ≡ reduction_word how) e (λ t h. t ∙ ap reduction_word h) (λ e.
    tested text (codes "max") reductions.Max how _ (text ≡ reduction_word how) e (λ t h. t ∙ ap reduction_word h) (λ e.
    no_ok BadRequest how e)))

pub reduction_found : (o : Option Data) (how : Op) → (text_in o >>= reduction_of) ≡ Ok how → Says o (word (reduction_word how))
reduction_found o how e =
    let s = step (text_in o) reduction_of how e in
    rw (text_found o s.0 s.1) (ap string (reduction_word_of s.0 how s.2))

reduction_of_word : (how : Op) → reduction_of (reduction_word how) ≡ Ok how
reduction_of_word reductions.Sum = refl
reduction_of_word reductions.Min = refl
reduction_of_word reductions.Max = refl

pub reduction_read : (o : Option Data) (how : Op) → Says o (word (reduction_word how)) → (text_in o >>= reduction_of) ≡ Ok how
reduction_read o how s = ap (λ r. r >>= reduction_of) (word_read o (reduction_word how) s) ∙ reduction_of_word how

-- ---- numbers

number_found : (d : Data) (n : Num) → as_number d ≡ Some n → d ≡ json_number n
number_found null n e = no_some n e
number_found (boolean b) n e = no_some n e
number_found (json_number m) n e = ap json_number (some_same m n e)
number_found (string s) n e = no_some n e
number_found (array ds) n e = no_some n e
number_found (object ms) n e = no_some n e

pub some_step : {X Y : Type 0} (o : Option X) (next : X → Option Y) (y : Y) → option_and_then next o ≡ Some y → (x : X) × (o ≡ Some x) × (next x ≡ Some y)
some_step None next y e = no_some y e
some_step (Some x) next y e = (x, refl, e)

integer_found_of : (d : Data) (z : ℤ) → integer_of d ≡ Some z → IsInteger d z
integer_found_of d z e = let n = some_step (as_number d) as_i64 z e in (n.0, number_found d n.0 n.1, n.2)

integer_read_of : (d : Data) (z : ℤ) → IsInteger d z → integer_of d ≡ Some z
integer_read_of d z s = rw (s.1) s.2

abbrev pub integer_in : Option Data → Result ℤ Refusal
integer_in o = ok_or (option_and_then as_i64 (option_and_then as_number o)) BadRequest

pub integer_found : (o : Option Data) (z : ℤ) → integer_in o ≡ Ok z → Says o (integer z)
integer_found None z e = no_ok BadRequest z e
integer_found (Some d) z e = integer_found_of d z (some_of_ok (integer_of d) BadRequest z e)

pub integer_read : (o : Option Data) (z : ℤ) → Says o (integer z) → integer_in o ≡ Ok z
integer_read None z s = absurd s
integer_read (Some d) z s = rw (integer_read_of d z s) refl

abbrev pub number_in : Option Data → Result ℕ Refusal
number_in o = ok_or (option_and_then as_u64 (option_and_then as_number o)) BadRequest

pub natural_found : (o : Option Data) (k : ℕ) → number_in o ≡ Ok k → Says o (number k)
natural_found None k e = no_ok BadRequest k e
natural_found (Some d) k e = let n = some_step (as_number d) as_u64 k (some_of_ok (option_and_then as_u64 (as_number d)) BadRequest k e) in
    (n.0, number_found d n.0 n.1, n.2)

pub natural_read : (o : Option Data) (k : ℕ) → Says o (number k) → number_in o ≡ Ok k
natural_read None k s = absurd s
natural_read (Some d) k s = rw (s.1, s.2) refl

-- ---- indices

pub mapped : {X Y : Type 0} (f : X → Y) (o : Option X) (y : Y) → option_map f o ≡ Some y → (x : X) × (o ≡ Some x) × (f x ≡ y)
mapped f None y e = no_some y e
mapped f (Some x) y e = (x, refl, some_same (f x) y e)

pair_found : (c d : Data) (i : Index) → pair_of c d ≡ Some i → IsIndex (array (item c (item d no_items))) i
pair_found c d i e =
    let a = some_step (integer_of c) (λ i. option_map (λ j. Point (i ∷ j ∷ [])) (integer_of d)) i e in
    let b = mapped (λ j. Point (a.0 ∷ j ∷ [])) (integer_of d) i a.2 in
    rw (← b.2) (c, d, refl, integer_found_of c a.0 a.1, integer_found_of d b.0 b.1)

triple_found : (c d f : Data) (i : Index) → triple_of c d f ≡ Some i → IsIndex (array (item c (item d (item f no_items)))) i
triple_found c d f i e =
    let a = some_step (integer_of c) (λ i. option_and_then (λ j. option_map (λ k. Point (i ∷ j ∷ k ∷ [])) (integer_of f)) (integer_of d)) i e in
    let b = some_step (integer_of d) (λ j. option_map (λ k. Point (a.0 ∷ j ∷ k ∷ [])) (integer_of f)) i a.2 in
    let g = mapped (λ k. Point (a.0 ∷ b.0 ∷ k ∷ [])) (integer_of f) i b.2 in
    rw (← g.2) (c, d, f, refl, integer_found_of c a.0 a.1, integer_found_of d b.0 b.1, integer_found_of f g.0 g.1)

tuple_found : (ds : JsonItems) (i : Index) → tuple_of ds ≡ Some i → IsIndex (array ds) i
tuple_found no_items i e = no_some i e
tuple_found (item c no_items) i e = no_some i e
tuple_found (item c (item d no_items)) i e = pair_found c d i e
tuple_found (item c (item d (item f no_items))) i e = triple_found c d f i e
tuple_found (item c (item d (item f (item g ds)))) i e = no_some i e

label_found : (b : Bool) (t : List ℕ) (i : Index) → is_label t ≡ b → (if b then Some (Text t) else None) ≡ Some i → IsIndex (string t) i
label_found true t i h e = rw (← some_same (Text t) i e) (refl, h)
label_found false t i h e = no_some i e

pub index_found_of : (d : Data) (i : Index) → index_of d ≡ Some i → IsIndex d i
index_found_of null i e = no_some i e
index_found_of (boolean b) i e = no_some i e
index_found_of (json_number n) i e = let z = mapped (λ i. Point (i ∷ [])) (as_i64 n) i e in rw (← z.2) (n, refl, z.1)
index_found_of (string t) i e = label_found (is_label t) t i refl e
index_found_of (array ds) i e = tuple_found ds i e
index_found_of (object ms) i e = no_some i e

pub index_read_of : (d : Data) (i : Index) → IsIndex d i → index_of d ≡ Some i
index_read_of d (Point []) s = absurd s
index_read_of d (Point (i ∷ [])) s = rw (s.1, s.2) refl
index_read_of d (Point (i ∷ j ∷ [])) s = rw (s.2, integer_read_of s.0 i s.3, integer_read_of s.1 j s.4) refl
index_read_of d (Point (i ∷ j ∷ k ∷ [])) s = rw (s.3, integer_read_of s.0 i s.4, integer_read_of s.1 j s.5, integer_read_of s.2 k s.6) refl
index_read_of d (Point (i ∷ j ∷ k ∷ l ∷ is)) s = absurd s
index_read_of d (Text t) s = rw (s.0, s.1) refl

abbrev pub index_in : Option Data → Result Index Refusal
index_in o = ok_or (option_and_then index_of o) BadRequest

pub index_found : (o : Option Data) (i : Index) → index_in o ≡ Ok i → Says o (index i)
index_found None i e = no_ok BadRequest i e
index_found (Some d) i e = index_found_of d i (some_of_ok (index_of d) BadRequest i e)

pub index_read : (o : Option Data) (i : Index) → Says o (index i) → index_in o ≡ Ok i
index_read None i s = absurd s
index_read (Some d) i s = rw (index_read_of d i s) refl

-- ---- arrays of integers

listed_found : (ds : JsonItems) (zs : List ℤ) → integers_listed ds ≡ Some zs → AreIntegers ds zs
listed_found no_items zs e = subst (AreIntegers no_items) (some_same [] zs e) tt
listed_found (item d ds) zs e =
    let z = some_step (integer_of d) (λ z. option_map (λ zs. z ∷ zs) (integers_listed ds)) zs e in
    let more = mapped (λ zs. z.0 ∷ zs) (integers_listed ds) zs z.2 in
    subst (AreIntegers (item d ds)) more.2 (integer_found_of d z.0 z.1, listed_found ds more.0 more.1)

listed_read : (ds : JsonItems) (zs : List ℤ) → AreIntegers ds zs → integers_listed ds ≡ Some zs
listed_read no_items [] s = refl
listed_read (item d ds) (z ∷ zs) s = rw (integer_read_of d z s.0, listed_read ds zs s.1) refl
listed_read no_items (z ∷ zs) s = absurd s
listed_read (item d ds) [] s = absurd s

pub integers_found_of : (d : Data) (zs : List ℤ) → integers_of d ≡ Some zs → IsIntegers d zs
integers_found_of null zs e = no_some zs e
integers_found_of (boolean b) zs e = no_some zs e
integers_found_of (json_number n) zs e = no_some zs e
integers_found_of (string t) zs e = no_some zs e
integers_found_of (array ds) zs e = (ds, refl, listed_found ds zs e)
integers_found_of (object ms) zs e = no_some zs e

integers_read_of : (d : Data) (zs : List ℤ) → IsIntegers d zs → integers_of d ≡ Some zs
integers_read_of d zs s = ap integers_of s.1 ∙ listed_read s.0 zs s.2

abbrev pub integers_in : Option Data → Result (List ℤ) Refusal
integers_in o = ok_or (option_and_then integers_of o) BadRequest

pub integers_found : (o : Option Data) (zs : List ℤ) → integers_in o ≡ Ok zs → (v : Data) × (o ≡ Some v) × IsIntegers v zs
integers_found None zs e = no_ok BadRequest zs e
integers_found (Some d) zs e = (d, refl, integers_found_of d zs (some_of_ok (integers_of d) BadRequest zs e))

pub integers_read : (o : Option Data) (v : Data) (zs : List ℤ) → o ≡ Some v → IsIntegers v zs → integers_in o ≡ Ok zs
integers_read o v zs e s = ap integers_in e ∙ ap (λ x. ok_or x BadRequest) (integers_read_of v zs s)
