-- That a fault has a status of its own.
use Rattle.std.proofs.Common.{◌≡◌, inl, inr, ℕ, List}
use Rattle.wb_statuses.specs.Statuses.{IsFault, IsPrinted}

-- a status after a fault is not 0
pub no_fault_of_0 : (status : ℕ) → status ≡ 0 → IsFault status → ⊥
no_fault_of_0 status e (inl three) = cc
no_fault_of_0 status e (inr four) = cc

-- nor 1
pub no_fault_of_1 : (status : ℕ) → status ≡ 1 → IsFault status → ⊥
no_fault_of_1 status e (inl three) = cc
no_fault_of_1 status e (inr four) = cc

-- what is printed with status 1 is not the whole text, nor a front of it
pub no_print_of_1 : (status : ℕ) (whole text : List ℕ) → status ≡ 1 → IsPrinted whole status text → ⊥
no_print_of_1 status whole text e (inl all) = cc (e, all.0)
no_print_of_1 status whole text e (inr part) = no_fault_of_1 status e part.0
