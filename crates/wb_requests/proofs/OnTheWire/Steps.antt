-- Readers of so many members, one after another: where the whole is read, each is, and the other way round.
use Rattle.std.proofs.Common.{◌≡◌, Result, Ok, Err, refl}
use Rattle.wb_edit.specs.declared.refusal.Refusal.{Refusal}
use Rattle.wb_requests.specs.Fields.{◌>>=◌}

module _ {R : Type 0} where
  abbrev pub one_of : {A : Type 0} → Result (Unit {0}) Refusal → Result A Refusal → (A → Result R Refusal) → Result R Refusal
  one_of u f K = u >>= (λ x. f >>= K)

  abbrev pub two_of : {A B : Type 0} → Result (Unit {0}) Refusal → Result A Refusal → Result B Refusal → (A → B → Result R Refusal) → Result R Refusal
  two_of u f g K = u >>= (λ x. f >>= (λ a. g >>= K a))

  abbrev pub three_of : {A B C : Type 0} → Result (Unit {0}) Refusal → Result A Refusal → Result B Refusal → Result C Refusal →
      (A → B → C → Result R Refusal) → Result R Refusal
  three_of u f g h K = u >>= (λ x. f >>= (λ a. g >>= (λ b. h >>= K a b)))

  abbrev pub five_of : {A B C D E : Type 0} → Result (Unit {0}) Refusal → Result A Refusal → Result B Refusal → Result C Refusal → Result D Refusal →
      Result E Refusal
      → (A → B → C → D → E → Result R Refusal) → Result R Refusal
  five_of u f g h i j K = u >>= (λ x. f >>= (λ a. g >>= (λ b. h >>= (λ c. i >>= (λ d. j >>= K a b c d)))))

  pub one : {A : Type 0} (u : Result (Unit {0}) Refusal) (f : Result A Refusal) (K : A → Result R Refusal) (r : R) → one_of u f K ≡ Ok r → (a : A) ×
      (u ≡ Ok tt) × (f ≡ Ok a) × (K a ≡ Ok r)
  one (Ok x) (Ok a) K r e = (a, refl, refl, e)
  one (Ok x) (Err why) K r e = absurd (cc)
  one (Err why) f K r e = absurd (cc)

  pub two : {A B : Type 0} (u : Result (Unit {0}) Refusal) (f : Result A Refusal) (g : Result B Refusal) (K : A → B → Result R Refusal) (r : R) →
      two_of u f g K ≡ Ok r
      → (a : A) × (b : B) × (u ≡ Ok tt) × (f ≡ Ok a) × (g ≡ Ok b) × (K a b ≡ Ok r)
  two u (Ok a) g K r e = let x = one u g (K a) r e in (a, x.0, x.1, refl, x.2, x.3)
  two (Ok x) (Err why) g K r e = absurd (cc)
  two (Err w) (Err why) g K r e = absurd (cc)

  pub three : {A B C : Type 0} (u : Result (Unit {0}) Refusal) (f : Result A Refusal) (g : Result B Refusal) (h : Result C Refusal)
      (K : A → B → C → Result R Refusal) (r : R) → three_of u f g h K ≡ Ok r
      → (a : A) × (b : B) × (c : C) × (u ≡ Ok tt) × (f ≡ Ok a) × (g ≡ Ok b) × (h ≡ Ok c) × (K a b c ≡ Ok r)
  three u (Ok a) g h K r e = let x = two u g h (K a) r e in (a, x.0, x.1, x.2, refl, x.3, x.4, x.5)
  three (Ok x) (Err why) g h K r e = absurd (cc)
  three (Err w) (Err why) g h K r e = absurd (cc)

  pub five : {A B C D E : Type 0} (u : Result (Unit {0}) Refusal) (f : Result A Refusal) (g : Result B Refusal) (h : Result C Refusal) (i : Result D Refusal)
      (j : Result E Refusal)
      (K : A → B → C → D → E → Result R Refusal) (r : R) → five_of u f g h i j K ≡ Ok r
      → (a : A) × (b : B) × (c : C) × (d : D) × (e : E) × (u ≡ Ok tt) × (f ≡ Ok a) × (g ≡ Ok b) × (h ≡ Ok c) × (i ≡ Ok d) × (j ≡ Ok e) × (K a b c d e ≡ Ok r)
  five u (Ok a) (Ok b) h i j K r e = let x = three u h i j (K a b) r e in (a, b, x.0, x.1, x.2, x.3, refl, refl, x.4, x.5, x.6, x.7)
  five (Ok x) (Ok a) (Err why) h i j K r e = absurd (cc)
  five (Err w) (Ok a) (Err why) h i j K r e = absurd (cc)
  five (Ok x) (Err why) g h i j K r e = absurd (cc)
  five (Err w) (Err why) g h i j K r e = absurd (cc)

  pub one_read : {A : Type 0} (u : Result (Unit {0}) Refusal) (f : Result A Refusal) (K : A → Result R Refusal) (a : A) (r : R) → u ≡ Ok tt → f ≡ Ok a →
      K a ≡ Ok r → one_of u f K ≡ Ok r
  one_read u f K a r p q e = rw (p, q) e

  pub two_read : {A B : Type 0} (u : Result (Unit {0}) Refusal) (f : Result A Refusal) (g : Result B Refusal) (K : A → B → Result R Refusal) (a : A) (b : B)
      (r : R)
      → u ≡ Ok tt → f ≡ Ok a → g ≡ Ok b → K a b ≡ Ok r → two_of u f g K ≡ Ok r
  two_read u f g K a b r p q s e = rw (p, q, s) e

  pub three_read : {A B C : Type 0} (u : Result (Unit {0}) Refusal) (f : Result A Refusal) (g : Result B Refusal) (h : Result C Refusal)
      (K : A → B → C → Result R Refusal) (a : A) (b : B) (c : C) (r : R)
      → u ≡ Ok tt → f ≡ Ok a → g ≡ Ok b → h ≡ Ok c → K a b c ≡ Ok r → three_of u f g h K ≡ Ok r
  three_read u f g h K a b c r p q s t e = rw (p, q, s, t) e

  pub five_read : {A B C D E : Type 0} (u : Result (Unit {0}) Refusal) (f : Result A Refusal) (g : Result B Refusal) (h : Result C Refusal)
      (i : Result D Refusal) (j : Result E Refusal)
      (K : A → B → C → D → E → Result R Refusal) (a : A) (b : B) (c : C) (d : D) (e : E) (r : R)
      → u ≡ Ok tt → f ≡ Ok a → g ≡ Ok b → h ≡ Ok c → i ≡ Ok d → j ≡ Ok e → K a b c d e ≡ Ok r → five_of u f g h i j K ≡ Ok r
  five_read u f g h i j K a b c d e r p q s t v w z = rw (p, q, s, t, v, w) z
