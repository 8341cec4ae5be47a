-- What is kept of what was done, after one more.
use Rattle.std.proofs.Common.{◌≡◌, ◌+◌, ◌<◌, ◌++◌, ◌∷◌, [], ℕ, List, length, refl, sym, ap, ◌∙◌, arith, inl, length-append, true, true≢false, Result, Ok, Err}
use Rattle.std.specs.Prelude.{is_ok, is_err, if◌then◌else◌}
use Rattle.wb_company.specs.Doings.{MakesRoom, Notes, counted, most_kept}
use Rattle.wb_company.specs.declared.doings.Doing.{Doing}

-- there was room
pub room_there : (was : List Doing) → length was < most_kept → MakesRoom was 0 was
room_there was small = record { gone = []; all = refl; counts = refl; few = λ _. refl; many = λ full. absurd (omega arith) }

nothing_after : (xs : List Doing) → xs ++ [] ≡ xs
nothing_after [] = refl
nothing_after (x ∷ xs) = ap (λ ys. x ∷ ys) (nothing_after xs)

-- where there was no memory, nothing more is kept
pub not_kept : {T E : Type 0} (r : Result T E) (more was now : List Doing) → is_err r ≡ true → now ≡ (if is_ok r then more else was) → now ≡ was
not_kept (Ok x) more was now failed is = absurd (true≢false (sym failed))
not_kept (Err e) more was now failed is = is

-- all is gone
pub emptied : (was_first first last number : ℕ) (was rest : List Doing) (d : Doing) (kept : List Doing) → MakesRoom was number rest
    → first ≡ counted (was_first + number) → kept ≡ [] → last ≡ counted (counted (first + length rest) + 1) → Notes was_first was d last kept
emptied was_first first last number was rest d kept room is none after =
    let long : length was ≡ length room.gone + length rest = ap length room.all ∙ length-append room.gone rest in
    let whole : length (was ++ d ∷ []) ≡ length was + 1 = length-append was (d ∷ []) in
    record {
      gone = was ++ d ∷ [];
      all = sym (ap (λ xs. (was ++ d ∷ []) ++ xs) none ∙ nothing_after (was ++ d ∷ []));
      number = omega (arith, after, is, room.counts, long, whole);
      few = inl none;
    }
