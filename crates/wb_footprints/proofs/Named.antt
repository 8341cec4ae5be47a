-- What a write at one name does to the marks of all.
use Rattle.std.proofs.Common.{◌≡◌, ℕ, Bool, true, false, cond, ◌&&◌, ◌==◌, if◌then◌else◌, Option, Some, None, refl, sym, ap, ◌∙◌}
use Rattle.std.specs.BTreeMap.{BTreeMap, get, Updates}
use Rattle.std.specs.Cmp.Lexicographic.{slice_cmp}
use Rattle.std.specs.Ordering.{nat_cmp, is_eq}
use Rattle.std.specs.declared.cmp.Ordering.{Ordering}
use Rattle.std.specs.declared.cmp.Ordering.TheVariants.{Less, Equal, Greater}
use Rattle.wb_cells.specs.Cells.{Name, is_same_name, same_names}
use Rattle.wb_footprints.specs.declared.marks.name_marks.NameMarks.{NameMarks}
use Rattle.wb_footprints.specs.declared.places.part.Part.{Part}
use Rattle.wb_footprints.specs.Relation.{Sets, Clears}
use Rattle.wb_footprints.specs.Parts.{ObjectPart, is_same_part, part_marked}
use Rattle.wb_footprints.specs.ObjectParts.{at_name, is_same_object_part}
use Rattle.wb_footprints.proofs.Setting.{like}

abbrev pub Names : Type 0
Names = BTreeMap Name NameMarks

abbrev pub in_names : Names → ObjectPart → ℕ → Bool
in_names m s n = at_name (get (slice_cmp nat_cmp) m s.0) s.1 n

abbrev name_cmp : Name → Name → Ordering
name_cmp = slice_cmp nat_cmp

at_tie : (o : Ordering) (found : Option NameMarks) (y : NameMarks) (s : Part) (k : ℕ) (part num b old : Bool) → (o ≡ Equal → at_name found s k ≡ old) →
    part_marked y s k ≡ (if part && num then b else old) → at_name (cond (is_eq o) (Some y) found) s
    k ≡ (if (is_eq o && part) && num then b else at_name found s k)
at_tie Less found y s k part num b old h e = refl
at_tie Greater found y s k part num b old h e = refl
at_tie Equal found y s k part num b old h e = rw (h refl) e

gone_tie : (o : Ordering) (found : Option NameMarks) (y : NameMarks) (s : Part) (k : ℕ) (part : Bool) → (is_eq o && part) ≡ true →
    (part ≡ true → part_marked y s k ≡ false) → at_name (cond (is_eq o) (Some y) found) s k ≡ false
gone_tie Less found y s k part e h = cc
gone_tie Greater found y s k part e h = cc
gone_tie Equal found y s k part e h = h e

fewer_tie : (o : Ordering) (found : Option NameMarks) (y : NameMarks) (s : Part) (k : ℕ) (old : Bool) → (o ≡ Equal → at_name found s k ≡ old) →
    at_name found s k ≡ false → (old ≡ false → part_marked y s k ≡ false) → at_name (cond (is_eq o) (Some y) found) s k ≡ false
fewer_tie Less found y s k old h out f = out
fewer_tie Greater found y s k old h out f = out
fewer_tie Equal found y s k old h out f = f (sym (h refl) ∙ out)

other_tie : (o : Ordering) (found : Option NameMarks) (y : NameMarks) (s : Part) (k : ℕ) (old : Bool) → (o ≡ Equal → at_name found s k ≡ old) →
    part_marked y s k ≡ old → at_name (cond (is_eq o) (Some y) found) s k ≡ at_name found s k
other_tie Less found y s k old h e = refl
other_tie Greater found y s k old h e = refl
other_tie Equal found y s k old h e = e ∙ sym (h refl)

module _ (m n : Names) (d : Name) (x : Option NameMarks) (y : NameMarks) (was : get name_cmp m d ≡ x) (is : Updates name_cmp m n d (Some y)) where
  pub parts_set : (here : Part → Bool) (number : ℕ) (b : Bool) → Sets (at_name x) (part_marked y) here number b →
      Sets (in_names m) (in_names n) (λ s. is_same_name d s.0 && here s.1) number b
  parts_set here number b h = record {
    at = λ s k. rw (is.0 s.0)
        (at_tie (name_cmp d s.0) (get name_cmp m s.0) y s.1 k (here s.1) (number == k) b (at_name x s.1 k)
        (λ tie. ap (λ o. at_name o s.1 k) (ap (get name_cmp m) (sym (same_names d s.0 tie)) ∙ was)) (h.at s.1 k));
  }

  pub part_set : (p : Part) (number : ℕ) (b : Bool) → Sets (at_name x) (part_marked y) (is_same_part p) number b →
      Sets (in_names m) (in_names n) (is_same_object_part (d, p)) number b
  part_set p = parts_set (is_same_part p)

  found_as : (s : ObjectPart) (k : ℕ) → name_cmp d s.0 ≡ Equal → at_name (get name_cmp m s.0) s.1 k ≡ at_name x s.1 k
  found_as s k tie = ap (λ o. at_name o s.1 k) (ap (get name_cmp m) (sym (same_names d s.0 tie)) ∙ was)

  pub part_cleared : (p : Part) (number : ℕ) → Clears (at_name x) (part_marked y) (is_same_part p) number →
      Clears (in_names m) (in_names n) (is_same_object_part (d, p)) number
  part_cleared p number h = record {
    gone = λ s here. rw (is.0 s.0) (gone_tie (name_cmp d s.0) (get name_cmp m s.0) y s.1 number (is_same_part p s.1) here (h.gone s.1));
    fewer = λ s out. rw (is.0 s.0) (fewer_tie (name_cmp d s.0) (get name_cmp m s.0) y s.1 number (at_name x s.1 number) (found_as s number) out (h.fewer s.1));
    others = λ s k other. rw (is.0 s.0) (other_tie (name_cmp d s.0) (get name_cmp m s.0) y s.1 k (at_name x s.1 k) (found_as s k) (h.others s.1 k other));
  }

  same_tie : (o : Ordering) (found : Option NameMarks) (s : Part) (k : ℕ) → (o ≡ Equal → found ≡ Some y) →
      at_name (cond (is_eq o) (Some y) found) s k ≡ at_name found s k
  same_tie Less found s k h = refl
  same_tie Greater found s k h = refl
  same_tie Equal found s k h = rw (h refl)

  pub part_same : x ≡ Some y → (s : ObjectPart) (k : ℕ) → in_names n s k ≡ in_names m s k
  part_same e s k = rw (is.0 s.0) (same_tie (name_cmp d s.0) (get name_cmp m s.0) s.1 k (λ tie. ap (get name_cmp m) (sym (same_names d s.0 tie)) ∙ was ∙ e))

-- nothing is to be taken away at a name without marks
nothing : (o : Ordering) (found : Option NameMarks) (s : Part) (k : ℕ) (part : Bool) → (o ≡ Equal → found ≡ None) → (is_eq o && part) ≡ true →
    at_name found s k ≡ false
nothing Less found s k part h e = cc
nothing Greater found s k part h e = cc
nothing Equal found s k part h e = rw (h refl) refl

pub none_cleared : (m n : Names) (d : Name) (p : Part) (number : ℕ) → n ≡ m → get name_cmp m d ≡ None →
    Clears (in_names m) (in_names n) (is_same_object_part (d, p)) number
none_cleared m n d p number same was = rw same (record {
  gone = λ s here. nothing (name_cmp d s.0) (get name_cmp m s.0) s.1 number (is_same_part p s.1)
      (λ tie. ap (get name_cmp m) (sym (same_names d s.0 tie)) ∙ was) here;
  fewer = λ s out. out;
  others = λ s k other. refl;
})

-- a name with its first marks
pub parts_new : (m l n : Names) (d : Name) (fresh y : NameMarks) → l ≡ m → get name_cmp m d ≡ None → Updates name_cmp l n d (Some y) →
    ((p : Part) (k : ℕ) → part_marked fresh p k ≡ false) → (here : Part → Bool) (number : ℕ) → Sets (part_marked fresh) (part_marked y) here number true →
    Sets (in_names m) (in_names n) (λ s. is_same_name d s.0 && here s.1) number true
parts_new m l n d fresh y same was is none here number h =
    let on_m = rw same at is in
    parts_set m n d None y was on_m here number true (record { at = λ q k. h.at q k ∙ rw (none q k) })

pub part_new : (m l n : Names) (d : Name) (fresh y : NameMarks) → l ≡ m → get name_cmp m d ≡ None → Updates name_cmp l n d (Some y) →
    ((p : Part) (k : ℕ) → part_marked fresh p k ≡ false) → (p : Part) (number : ℕ) → Sets (part_marked fresh) (part_marked y) (is_same_part p) number true →
    Sets (in_names m) (in_names n) (is_same_object_part (d, p)) number true
part_new m l n d fresh y same was is none p = parts_new m l n d fresh y same was is none (is_same_part p)

swapped : (done a b : Bool) → (a && (done && b)) ≡ (done && (a && b))
swapped true a b = refl
swapped false true b = refl
swapped false false b = refl

-- a write that may not have been done
pub done_first : (m n : Names) (d : Name) (here : Part → Bool) (done : Bool) (number : ℕ) →
    Sets (in_names m) (in_names n) (λ s. is_same_name d s.0 && (done && here s.1)) number true →
    Sets (in_names m) (in_names n) (λ s. done && (is_same_name d s.0 && here s.1)) number true
done_first m n d here done number h = like (in_names m) (in_names n) (λ s. is_same_name d s.0 && (done && here s.1))
    (λ s. done && (is_same_name d s.0 && here s.1)) number true (λ s. swapped done (is_same_name d s.0) (here s.1)) h
