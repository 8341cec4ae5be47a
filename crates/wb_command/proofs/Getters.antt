-- What clap's typed getters read is what was found for an option.
use Rattle.std.proofs.Common.{◌≡◌, ◌∙◌, ◌⊎◌, ℕ, Bool, true, false, List, Option, Some, None, refl, sym, ap, inl, inr, true≢false}
use Rattle.std.specs.Prelude.{◌≢◌, Result, Ok, Err, MatchOption, IsSomeAnd, MatchResult, codes, is_some, bytes_eq, unwrap_or}
use Rattle.std.specs.Option.{option_map_or}
use Rattle.std.specs.Str.Parse.{ParsesUnsigned, ParsesBool, true_text}
use Rattle.std.proofs.lemmas.Slice.Eq.{bytes_eq-Decides}
use Rattle.clap.specs.Words.{ReadsOne, Row, Text, TriesOne, one_of, one_text, rows_of}
use Rattle.clap.specs.declared.parser.matches.Found.{Found}
use Rattle.clap.proofs.WalkLemmas.{one_text-rows}
use Rattle.wb_command.specs.Asks.{HasNumber, HasWorkers, IsDay, IsDesk, IsOptional, IsPlace, IsStay, Means, MeansAny, Writes, is_set}
use Rattle.wb_command.specs.declared.Asked.{Asked}
use Rattle.wb_command.specs.declared.Asked.TheVariants.{Run, RunKept, Check, Upgrade, Compact, Serve, ServeKept}
use Rattle.wb_command.specs.declared.Place.{Place}
use Rattle.wb_command.specs.declared.Place.TheVariants.{Port, Socket}
use Rattle.wb_command.specs.declared.Stay.{Stay}
use Rattle.wb_command.specs.declared.Wanted.{Wanted}
use Rattle.wb_command.specs.declared.Wanted.TheVariants as wanted

some≢none : {X : Type 0} (x : X) → Some x ≡ None → ⊥
some≢none x e = true≢false (ap is_some e)

-- the number that the text of an option writes, if there is one
abbrev NumberIn : ℕ → Option Text → ℕ → Type 0
NumberIn bits o n = IsSomeAnd o (λ text. Writes bits text n)

module _ {E : Type 0} (bits : ℕ) (G : Text → Result ℕ E → Type 0) (only : (u : Text) (x : Result ℕ E) → G u x → ParsesUnsigned bits 10 u x) where
  number_in : (o : Option Text) (r : Option ℕ) → (o ≡ None → r ≡ None) → ((t : Text) → o ≡ Some t → ReadsOne G t r)
      → MatchOption r ((n : ℕ) → NumberIn bits o n → ⊥) (NumberIn bits o)
  number_in None None none some = λ n h. h
  number_in None (Some v) none some = absurd (some≢none v (none refl))
  number_in (Some t) None none some = λ n h.
      let g = some t refl in
      only t (Err g.0) g.1 (h.0, h.1)
  number_in (Some t) (Some v) none some =
      let p = only t (Ok v) (some t refl) in
      (p.0.0, p.0.1, p.1)

  -- of `get_one`
  pub number_read : (f : Found) (name : Text) (r : Option ℕ) → (one_text f name ≡ None → r ≡ None)
      → ((t : Text) → one_text f name ≡ Some t → ReadsOne G t r)
      → MatchOption r ((n : ℕ) → HasNumber bits name (rows_of f) n → ⊥) (HasNumber bits name (rows_of f))
  number_read f name r none some = number_in (one_of name (rows_of f)) r
      (λ e. none (one_text-rows f name ∙ e)) (λ t e. some t (one_text-rows f name ∙ e))

-- the number of workers, by the text of its option
abbrev WorkersIn : Option Text → ℕ → Type 0
WorkersIn o n = ((o ≡ None) × (n ≡ 1)) ⊎ NumberIn 8 o n

module _ {E : Type 0} (G : Text → Result ℕ E → Type 0) (only : (u : Text) (x : Result ℕ E) → G u x → ParsesUnsigned 8 10 u x) where
  workers_in : (o : Option Text) (r : Result (Option ℕ) E) → (o ≡ None → r ≡ Ok None) → ((t : Text) → o ≡ Some t → TriesOne G t r)
      → MatchResult r (λ x. WorkersIn o (unwrap_or x 1)) (λ _. (n : ℕ) → WorkersIn o n → ⊥)
  workers_in None (Ok None) none some = inl (refl, refl)
  workers_in None (Ok (Some v)) none some = absurd (true≢false (ap is_number (none refl)))
    where
      is_number : Result (Option ℕ) E → Bool
      is_number (Ok (Some n)) = true
      is_number _ = false
  workers_in None (Err e) none some = absurd (true≢false (ap is_failed (none refl)))
    where
      is_failed : Result (Option ℕ) E → Bool
      is_failed (Err e) = true
      is_failed _ = false
  workers_in (Some t) (Ok None) none some = absurd (some t refl)
  workers_in (Some t) (Ok (Some v)) none some =
      let p = only t (Ok v) (some t refl) in
      inr (p.0.0, p.0.1, p.1)
  workers_in (Some t) (Err e) none some = λ n h. elim h [
    | inl left ↦ some≢none t left.0
    | inr right ↦ only t (Err e) (some t refl) (right.0, right.1)
  ]

  -- of `try_get_one`
  pub workers_read : (f : Found) (r : Result (Option ℕ) E) → (one_text f (codes "workers") ≡ None → r ≡ Ok None)
      → ((t : Text) → one_text f (codes "workers") ≡ Some t → TriesOne G t r)
      → MatchResult r (λ x. HasWorkers (rows_of f) (unwrap_or x 1)) (λ _. (n : ℕ) → HasWorkers (rows_of f) n → ⊥)
  workers_read f r none some = workers_in (one_of (codes "workers") (rows_of f)) r
      (λ e. none (one_text-rows f (codes "workers") ∙ e)) (λ t e. some t (one_text-rows f (codes "workers") ∙ e))

-- a number that need not be told, by the text of its option
module _ {E : Type 0} (bits : ℕ) (G : Text → Result ℕ E → Type 0) (only : (u : Text) (x : Result ℕ E) → G u x → ParsesUnsigned bits 10 u x) where
  abbrev OptionalIn : Option Text → Option ℕ → Type 0
  OptionalIn o None = o ≡ None
  OptionalIn o (Some n) = NumberIn bits o n

  optional_in : (o : Option Text) (r : Result (Option ℕ) E) → (o ≡ None → r ≡ Ok None) → ((t : Text) → o ≡ Some t → TriesOne G t r)
      → MatchResult r (OptionalIn o) (λ _. (p : Option ℕ) → OptionalIn o p → ⊥)
  optional_in None (Ok None) none some = refl
  optional_in None (Ok (Some v)) none some = absurd (true≢false (ap is_number (none refl)))
    where
      is_number : Result (Option ℕ) E → Bool
      is_number (Ok (Some n)) = true
      is_number _ = false
  optional_in None (Err e) none some = absurd (true≢false (ap is_failed (none refl)))
    where
      is_failed : Result (Option ℕ) E → Bool
      is_failed (Err e) = true
      is_failed _ = false
  optional_in (Some t) (Ok None) none some = absurd (some t refl)
  optional_in (Some t) (Ok (Some v)) none some =
      let p = only t (Ok v) (some t refl) in
      (p.0.0, p.0.1, p.1)
  optional_in (Some t) (Err e) none some = λ p h. elim p as (λ p. OptionalIn (Some t) p → ⊥) [
    | None ↦ λ h. some≢none t h
    | Some n ↦ λ h. only t (Err e) (some t refl) (h.0, h.1)
  ] h

  -- of `try_get_one`
  pub optional_read : (f : Found) (name : Text) (r : Result (Option ℕ) E) → (one_text f name ≡ None → r ≡ Ok None)
      → ((t : Text) → one_text f name ≡ Some t → TriesOne G t r)
      → MatchResult r (OptionalIn (one_of name (rows_of f))) (λ _. (p : Option ℕ) → OptionalIn (one_of name (rows_of f)) p → ⊥)
  optional_read f name r none some = optional_in (one_of name (rows_of f)) r
      (λ e. none (one_text-rows f name ∙ e)) (λ t e. some t (one_text-rows f name ∙ e))

-- ---- flags

abbrev is_true_text : Text → Bool
is_true_text text = bytes_eq text (codes "true")

not_true : (t : Text) → t ≢ true_text → false ≡ is_true_text t
not_true t other = go (is_true_text t) refl
  where
    go : (b : Bool) → is_true_text t ≡ b → false ≡ b
    go false e = refl
    go true e = absurd (other ((bytes_eq-Decides t (codes "true")).0 e))

module _ (E : Type 0) where
  flag_in : (o : Option Text) (r : Option Bool) → (o ≡ None → r ≡ None) → ((t : Text) → o ≡ Some t → ReadsOne {T = Bool} {E = E} ParsesBool t r)
      → unwrap_or r false ≡ option_map_or is_true_text o false
  flag_in None None none some = refl
  flag_in None (Some v) none some = absurd (some≢none v (none refl))
  flag_in (Some t) None none some = not_true t (some t refl).1.0
  flag_in (Some t) (Some true) none some = sym ((bytes_eq-Decides t (codes "true")).1 (some t refl))
  flag_in (Some t) (Some false) none some = sym (ap is_true_text (some t refl))

  -- of `get_one` at `bool`
  pub flag_read : (f : Found) (name : Text) (r : Option Bool) → (one_text f name ≡ None → r ≡ None)
      → ((t : Text) → one_text f name ≡ Some t → ReadsOne {T = Bool} {E = E} ParsesBool t r)
      → unwrap_or r false ≡ is_set name (rows_of f)
  flag_read f name r none some = flag_in (one_of name (rows_of f)) r
      (λ e. none (one_text-rows f name ∙ e)) (λ t e. some t (one_text-rows f name ∙ e))

-- ---- what a name can mean

-- `run` means nothing where no number of workers was found
pub run_alone : (found : List Row) → ((n : ℕ) → HasWorkers found n → ⊥)
    → (asked : Asked) → Means (codes "run") found asked → ⊥
run_alone found none (Run resume workers) m = none workers m.3
run_alone found none (RunKept journal resume workers) m = none workers m.3
run_alone found none Check m = absurd (true≢false (ap (bytes_eq (codes "run")) m))
run_alone found none Upgrade m = absurd (true≢false (ap (bytes_eq (codes "run")) m))
run_alone found none (Compact journal) m = absurd (true≢false (ap (bytes_eq (codes "run")) m.0))
run_alone found none (Serve port seats resume workers) m = absurd (true≢false (ap (bytes_eq (codes "run")) m.0))
run_alone found none (ServeKept journal port seats workers) m = absurd (true≢false (ap (bytes_eq (codes "run")) m.0))

-- `serve` means nothing where one of its numbers was not found
pub serve_alone : (found : List Row) → ((place : Place) (seats workers : ℕ) → IsDesk found place seats workers → ⊥)
    → (asked : Asked) → Means (codes "serve") found asked → ⊥
serve_alone found none (Run resume workers) m = absurd (true≢false (ap (bytes_eq (codes "serve")) m.0))
serve_alone found none (RunKept journal resume workers) m = absurd (true≢false (ap (bytes_eq (codes "serve")) m.0))
serve_alone found none Check m = absurd (true≢false (ap (bytes_eq (codes "serve")) m))
serve_alone found none Upgrade m = absurd (true≢false (ap (bytes_eq (codes "serve")) m))
serve_alone found none (Compact journal) m = absurd (true≢false (ap (bytes_eq (codes "serve")) m.0))
serve_alone found none (Serve port seats resume workers) m = none (Port port) seats workers m.4
serve_alone found none (ServeKept journal port seats workers) m = none (Port port) seats workers m.4

-- without `--stay` it means a desk of one day
pub serve_day : (found : List Row) (asked : Asked) → Means (codes "serve") found asked → IsDay found
serve_day found (Run resume workers) m = absurd (true≢false (ap (bytes_eq (codes "serve")) m.0))
serve_day found (RunKept journal resume workers) m = absurd (true≢false (ap (bytes_eq (codes "serve")) m.0))
serve_day found Check m = absurd (true≢false (ap (bytes_eq (codes "serve")) m))
serve_day found Upgrade m = absurd (true≢false (ap (bytes_eq (codes "serve")) m))
serve_day found (Compact journal) m = absurd (true≢false (ap (bytes_eq (codes "serve")) m.0))
serve_day found (Serve port seats resume workers) m = m.3
serve_day found (ServeKept journal port seats workers) m = m.3

-- which means nothing where the number of seconds of an idle connection can't be read
pub day_unread : (found : List Row) → ((o : Option ℕ) → IsOptional 32 (codes "idle") found o → ⊥) → (asked : Asked) → Means (codes "serve") found asked → ⊥
day_unread found none asked m = none None (serve_day found asked m).1

-- no place where the port can't be read
pub place_unread : (found : List Row) → ((o : Option ℕ) → IsOptional 16 (codes "port") found o → ⊥) → (place : Place) → IsPlace found place → ⊥
place_unread found none (Port port) p = none (Some port) p.0
place_unread found none (Socket path) p = none None p.0

-- with `--stay` it means a desk that stays
pub stay_alone : (found : List Row) → is_set (codes "stay") found ≡ true → ((s : Stay) → IsStay found s → ⊥)
    → (w : Wanted) → MeansAny (codes "serve") found w → ⊥
stay_alone found set none (wanted.Once asked) m = true≢false (sym set ∙ (serve_day found asked m).0)
stay_alone found set none (wanted.Stay stay) m = none stay m.2
stay_alone found set none (wanted.StayKept journal stay) m = none stay m.2
