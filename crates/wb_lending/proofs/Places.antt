-- Guests of one place, and what came back of places whose threads were started.
use Rattle.std.proofs.Common.{◌≡◌, ◌∙◌, ◌+◌, ◌<◌, ℕ, List, [], ◌∷◌, ◌++◌, Some, true, below_more, get_or, length, slice_get, refl, sym, subst, ap}
use Rattle.std.proofs.Math.ListN.{get_or-append}
use Rattle.std.proofs.Math.Seq.{get_or-append_seam}
use Rattle.std.proofs.lemmas.Option.{get_or_from_slice_get}
use Rattle.wb_lending.specs.Lending.{Served, Lent}
use Rattle.wb_lending.specs.declared.guests.Guests as Guests
use Rattle.wb_lending.specs.declared.guests.Hosts as Hosts

-- one guest more was served behind these
pub one_more : {G H P C D E : Type 0} (guests : Guests.Ghosts G C D E) (hosts : Hosts.Ghosts H P C E) (cs : List C) (p m k : P) (c : C) (g : G) (n : ℕ)
    → Served guests hosts p cs m → guests.came g n c → hosts.served m c k true → Served guests hosts p (cs ++ c ∷ []) k
one_more guests hosts [] p m k c g n is_m came served = (g, n, k, came, subst (λ m. hosts.served m c k true) is_m served, refl)
one_more guests hosts (d ∷ cs) p m k c g n before came served =
    (before.0, before.1, before.2, before.3, before.4, one_more guests hosts cs before.2 m k c g n before.5 came served)

-- a thread that kept its promise
pub lent_back : {G H P C D E : Type 0} (guests : Guests.Ghosts G C D E) (hosts : Hosts.Ghosts H P C E) (ps ks first : List P) (place : ℕ) (p k q : P)
    → first ≡ ps → slice_get ps place ≡ Some p → slice_get ks place ≡ Some k → ((d : P) → get_or first place d ≡ q)
    → Lent guests hosts q (get_or ks place k) → Lent guests hosts p k
lent_back guests hosts ps ks first place p k q is_first is_p is_k at kept =
    let same : q ≡ p = sym (at p) ∙ (ap (λ l. get_or l place p) is_first ∙ get_or_from_slice_get ps place p p is_p) in
    let there : get_or ks place k ≡ k = get_or_from_slice_get ks place k k is_k in
    subst (λ q. Lent guests hosts q k) same (subst (Lent guests hosts q) there kept)

-- one thread more was started behind these, for the place of its number
pub started : {P X : Type 0} (promised : X → P) (first : List P) (p : P) (xs : List X) (x d : X)
    → ((k : ℕ) → k < length xs → get_or first k p ≡ promised (get_or xs k d)) → get_or first (length xs) p ≡ promised x
    → (k : ℕ) → k < length xs + 1 → get_or first k p ≡ promised (get_or (xs ++ x ∷ []) k d)
started promised first p xs x d each latest k below =
    below_more (λ k. get_or first k p ≡ promised (get_or (xs ++ x ∷ []) k d)) (length xs)
    (λ k low. each k low ∙ ap promised (sym (get_or-append xs (x ∷ []) d k low)))
    (latest ∙ ap promised (sym (get_or-append_seam xs x [] d))) k below
