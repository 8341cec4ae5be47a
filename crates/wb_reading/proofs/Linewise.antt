-- One more line in front of others whose arrays are made.
use Rattle.std.proofs.Common.{◌≡◌, ℕ, suc, ◌<◌, ℤ, Bool, true, false, cond, List, ◌∷◌, map, drop, length, get_or, Option, Some, None, is_some, refl, sym, ap}
use Rattle.std.proofs.Common.{◌∙◌, subst}
use Rattle.std.proofs.lemmas.List.{drop-map}
use Rattle.wb_cells.specs.Cells.{Name, is_same_name}
use Rattle.wb_text.specs.Said.{Line, array, name_of, first_line_of, line_of}
use Rattle.wb_text.specs.declared.said.ObjectLine.{ObjectLine}
use Rattle.wb_text.specs.FromLines.Told.{are_distinct}
use Rattle.wb_text.proofs.FromLines.Steps.{turned, drop_at, not_distinct, twice}
use Rattle.wb_book.specs.Kept.{Pieced, array_in}
use Rattle.wb_book.proofs.Written.{one_name}
use Rattle.wb_reading.specs.Laid.{IsColumn, IsArrayTold, AreArraysTold}

-- another line than that of an array leaves the arrays as they are
abbrev pub NoArray : List Line → Line → Type 0
NoArray ls l = (o : Option Pieced) → o ≡ None → IsArrayTold ls (Some l) o

pub other_line : (ls more : List Line) (l : Line) (es fs : List (Name × Pieced)) → NoArray ls l → fs ≡ es → first_line_of (name_of l) more ≡ None →
    AreArraysTold ls more es → AreArraysTold ls (l ∷ more) fs
other_line ls more l es fs none same new told b = subst (λ (xs : List (Name × Pieced)). IsArrayTold ls (first_line_of b (l ∷ more)) (array_in xs b)) (sym same)
    (by (is_same_name b (name_of l)) refl)
  where
    nothing_told : (o : Option Line) → o ≡ None → IsArrayTold ls o (array_in es b) → array_in es b ≡ None
    nothing_told None e h = h
    nothing_told (Some x) e h = cc

    by : (t : Bool) → is_same_name b (name_of l) ≡ t → IsArrayTold ls (cond t (Some l) (first_line_of b more)) (array_in es b)
    by true e = none (array_in es b) (nothing_told (first_line_of b more) (ap (λ n. first_line_of n more) (one_name b (name_of l) e) ∙ new) (told b))
    by false e = told b

pub array_line : (ls more : List Line) (a d : Name) (xs : List ℤ) (irv : Option ℤ) (es fs : List (Name × Pieced)) (p : Pieced) → IsColumn ls d xs p
    → ((b : Name) → array_in fs b ≡ cond (is_same_name a b) (Some p) (array_in es b)) → AreArraysTold ls more es → AreArraysTold ls (array a d xs irv ∷ more) fs
array_line ls more a d xs irv es fs p column made told b =
    by (is_same_name b a) (made b ∙ ap (λ t. cond t (Some p) (array_in es b)) (turned a b))
  where
    by : (t : Bool) → array_in fs b ≡ cond t (Some p) (array_in es b) → IsArrayTold ls (cond t (Some (array a d xs irv)) (first_line_of b more)) (array_in fs b)
    by true e = (p, e, column)
    by false e = subst (λ (o : Option Pieced). IsArrayTold ls (first_line_of b more) o) (sym e) (told b)

-- a line of distinct ones stands alone for its name
alone_by : (ls more : List Line) (l : Line) (o : Option Line) → first_line_of (name_of l) more ≡ o → are_distinct (l ∷ more) ≡ true → o ≡ None
alone_by ls more l None is distinct = refl
alone_by ls more l (Some x) is distinct = let no : true ≡ false = sym distinct ∙ twice l more (ap (λ o. is_some o) is) in cc

rest_distinct : (ls : List Line) (k : ℕ) (b : Bool) → are_distinct (drop k ls) ≡ b → are_distinct ls ≡ true → b ≡ true
rest_distinct ls k true is distinct = refl
rest_distinct ls k false is distinct = let no : true ≡ false = sym distinct ∙ not_distinct ls k is in cc

pub alone : (xs : List ObjectLine) (k j : ℕ) (x : ObjectLine) → k < length xs → j ≡ suc k → x ≡ get_or xs k x → are_distinct (map line_of xs) ≡ true →
    first_line_of (name_of (line_of x)) (map line_of (drop j xs)) ≡ None
alone xs k j x low next this distinct =
    let rest : are_distinct (drop k (map line_of xs)) ≡ true = rest_distinct (map line_of xs) k (are_distinct (drop k (map line_of xs))) refl distinct in
    alone_by (map line_of xs) (map line_of (drop j xs)) (line_of x) (first_line_of (name_of (line_of x)) (map line_of (drop j xs))) refl
    (sym (ap are_distinct (drop-map line_of k xs) ∙ ap (λ (ys : List ObjectLine). are_distinct (map line_of ys)) (drop_at xs k j x low next this)) ∙ rest)

pub line_more : (xs : List ObjectLine) (k j i : ℕ) (x : ObjectLine) (ls : List Line) (es : List (Name × Pieced)) → k < length xs → j ≡ suc k → i ≡ k →
    x ≡ get_or xs k x
    → AreArraysTold ls (line_of x ∷ map line_of (drop j xs)) es → AreArraysTold ls (map line_of (drop i xs)) es
line_more xs k j i x ls es low next same this told =
    subst (λ (ys : List ObjectLine). AreArraysTold ls (map line_of ys) es) (sym (ap (λ t. drop t xs) same ∙ drop_at xs k j x low next this)) told
