-- A table of names that grows shows what it showed, and a form more is an entry more.
use Rattle.std.proofs.Common.{◌≡◌, ℕ, ◌+◌, ◌<◌, ◌≤◌, List, [], ◌∷◌, ◌++◌, length, map, take, min, get_or, refl, ap, sym, subst, ◌∙◌, arith, length-take}
use Rattle.std.specs.Prelude.{slice_index_or, slice_get, Option, None, Some}
use Rattle.std.specs.Option.{option_map}
use Rattle.std.proofs.lemmas.Option.{slice_get-map, slice_get_read, slice_get_past}
use Rattle.std.specs.List.{All}
use Rattle.std.proofs.lemmas.List.{get_or-take, map_push}
use Rattle.std.proofs.lemmas.List.Elements.{All-push, All-same, All-tail, All-head}
use Rattle.wb_cells.specs.Cells.{Name}
use Rattle.wb_desk.specs.declared.entry.Entry.{Entry}
use Rattle.wb_desk.specs.declared.brief.Brief.{Brief}
use Rattle.wb_desk.specs.declared.form.Form.{Form}
use Rattle.wb_desk.specs.declared.form.Form.TheVariants.{Set, SetPair, Get, GetPair, GetTriple, Where, WherePair, WhereTriple, Size, Reduce, State, Count, Denied, AtIndex, OnLocale, Unanswered, Replied, OfLine, Alone, Shared}
use Rattle.wb_desk.specs.declared.register.Register.{Register}
use Rattle.wb_desk.specs.Records.{name_at, shown, IsWithin, IsKept, entries_in}
use Rattle.wb_desk.specs.Tables.{IsFilled, IsFront, IsNamed}

-- ---- a table that grew

pub front_length : (before names : List Name) → IsFront before names → length before ≤ length names
front_length before names front = omega (arith, length-take (length before) names, ap (λ (xs : List Name). length xs) front)

pub front_name : (before names : List Name) (p : ℕ) → IsFront before names → p < length before → name_at names p ≡ name_at before p
front_name before names p front within = sym (get_or-take (length before) names p [] within) ∙ ap (λ (xs : List Name). name_at xs p) front

within_more : (m n : ℕ) (f : Form) → m ≤ n → IsWithin m f → IsWithin n f
within_more m n (Set p i v k c) le w = omega arith
within_more m n (SetPair p i j v k c) le w = omega arith
within_more m n (Get p i v) le w = omega arith
within_more m n (GetPair p i j v) le w = omega arith
within_more m n (GetTriple p i j k v) le w = omega arith
within_more m n (Where p i l) le w = omega arith
within_more m n (WherePair p i j l) le w = omega arith
within_more m n (WhereTriple p i j k l) le w = omega arith
within_more m n (Size p c) le w = omega arith
within_more m n (Reduce p op v) le w = omega arith
within_more m n (State k b) le w = w
within_more m n (Count k c) le w = w
within_more m n (Denied p why b) le w = omega arith
within_more m n (AtIndex p t i) le w = omega arith
within_more m n (OnLocale p l r) le w = omega arith
within_more m n (Unanswered q why) le w = w
within_more m n (Replied q r) le w = w
within_more m n (OfLine l) le w = w
within_more m n (Alone e) le w = w
within_more m n (Shared e) le w = w

shown_front : (seat : ℕ) (before names : List Name) (f : Form) → IsFront before names → IsWithin (length before) f → shown seat names f ≡ shown seat before f
shown_front seat before names (Set p i v k c) front w = rw (front_name before names p front w) refl
shown_front seat before names (SetPair p i j v k c) front w = rw (front_name before names p front w) refl
shown_front seat before names (Get p i v) front w = rw (front_name before names p front w) refl
shown_front seat before names (GetPair p i j v) front w = rw (front_name before names p front w) refl
shown_front seat before names (GetTriple p i j k v) front w = rw (front_name before names p front w) refl
shown_front seat before names (Where p i l) front w = rw (front_name before names p front w) refl
shown_front seat before names (WherePair p i j l) front w = rw (front_name before names p front w) refl
shown_front seat before names (WhereTriple p i j k l) front w = rw (front_name before names p front w) refl
shown_front seat before names (Size p c) front w = rw (front_name before names p front w) refl
shown_front seat before names (Reduce p op v) front w = rw (front_name before names p front w) refl
shown_front seat before names (State k b) front w = refl
shown_front seat before names (Count k c) front w = refl
shown_front seat before names (Denied p why b) front w = rw (front_name before names p front w) refl
shown_front seat before names (AtIndex p t i) front w = rw (front_name before names p front w) refl
shown_front seat before names (OnLocale p l r) front w = rw (front_name before names p front w) refl
shown_front seat before names (Unanswered q why) front w = refl
shown_front seat before names (Replied q r) front w = refl
shown_front seat before names (OfLine l) front w = refl
shown_front seat before names (Alone e) front w = refl
shown_front seat before names (Shared e) front w = refl

all_within_more : (m n : ℕ) → m ≤ n → (fs : List Form) → All (IsWithin m) fs → All (IsWithin n) fs
all_within_more m n le fs all = λ k d below. within_more m n (slice_index_or fs k d) le (all k d below)

pub map_front : (seat : ℕ) (before names : List Name) → IsFront before names → (fs : List Form) → All (IsWithin (length before)) fs → map (shown seat names) fs ≡ map (shown seat before) fs
map_front seat before names front [] all = refl
map_front seat before names front (f ∷ fs) all =
    let head = shown_front seat before names f front (All-head (IsWithin (length before)) f fs all) in
    let rest = map_front seat before names front fs (All-tail (IsWithin (length before)) f fs all) in
    rw (head, rest) refl

-- A register with the forms of another one, and a table that begins as its table, has each name that it speaks of.
pub grown_kept : (r s : Register) → s.forms.items ≡ r.forms.items → IsFront r.names.items s.names.items → IsKept r → IsKept s
grown_kept r s forms front kept =
    let within = all_within_more (length r.names.items) (length s.names.items) (front_length r.names.items s.names.items front) r.forms.items kept in
    All-same (IsWithin (length s.names.items)) s.forms.items r.forms.items forms within

-- One that has more room shows what it showed.
pub filled_entries : (r s : Register) → IsFilled r s → entries_in s ≡ entries_in r
filled_entries r s filled = rw (filled.seat, filled.names, filled.forms) refl

-- ---- one of the entries

pub within_at : (r : Register) (p : ℕ) (f : Form) → IsKept r → p < length r.forms.items → f ≡ get_or r.forms.items p f → IsWithin (length r.names.items) f
within_at r p f kept within is = subst (λ (g : Form). IsWithin (length r.names.items) g) (sym is) (kept p f within)

pub shown_at : (r : Register) (p : ℕ) (f : Form) → p < length r.forms.items → f ≡ get_or r.forms.items p f → slice_get (entries_in r) p ≡ Some (shown r.seat r.names.items f)
shown_at r p f within is =
    slice_get-map (shown r.seat r.names.items) r.forms.items p ∙ ap (λ (o : Option Form). option_map (shown r.seat r.names.items) o) (slice_get_read r.forms.items (length r.forms.items) p f refl within is)

pub shown_past : (r : Register) (p : ℕ) → length r.forms.items ≤ p → slice_get (entries_in r) p ≡ None
shown_past r p past =
    slice_get-map (shown r.seat r.names.items) r.forms.items p ∙ ap (λ (o : Option Form). option_map (shown r.seat r.names.items) o) (slice_get_past r.forms.items p past)

-- ---- a form more

pub pushed_kept : (n : ℕ) (fs gs : List Form) (f : Form) → gs ≡ fs ++ f ∷ [] → All (IsWithin n) fs → IsWithin n f → All (IsWithin n) gs
pushed_kept n fs gs f is all within = All-same (IsWithin n) gs (fs ++ f ∷ []) is (All-push (IsWithin n) fs f all within)

pub pushed_shown : (seat : ℕ) (names : List Name) (fs gs : List Form) (f : Form) → gs ≡ fs ++ f ∷ [] → map (shown seat names) gs ≡ map (shown seat names) fs ++ shown seat names f ∷ []
pushed_shown seat names fs gs f is = ap (λ (xs : List Form). map (shown seat names) xs) is ∙ map_push (shown seat names) fs f
