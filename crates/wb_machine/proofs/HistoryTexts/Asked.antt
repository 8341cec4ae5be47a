-- Edits that were asked for by lines.
use Rattle.std.proofs.Common.{List, [], ◌∷◌, ◌++◌, reverse, sym, subst}
use Rattle.std.proofs.lemmas.List.{reverse-append}
use Rattle.wb_history.specs.Past.{Numbered}
use Rattle.wb_requests.specs.declared.requests.request.Request.TheVariants.{Change}
use Rattle.wb_requests.proofs.OnTheWire.ReadProper.{read_proper}
use Rattle.wb_machine.specs.Histories.Text.{IsAsked, AreAsked, AreProper}

pub asked_with : (es : List Numbered) (x : Numbered) → AreAsked es → IsAsked x.edit → AreAsked (es ++ x ∷ [])
asked_with [] x h one = (one, tt)
asked_with (y ∷ es) x h one = (h.0, asked_with es x h.1 one)

pub asked_reverse : (es : List Numbered) → AreAsked es → AreAsked (reverse es)
asked_reverse [] h = tt
asked_reverse (x ∷ es) h = subst AreAsked (sym (reverse-append (x ∷ []) es)) (asked_with (reverse es) x (asked_reverse es h.1) h.0)

-- a line can say each of them
pub all_proper : (es : List Numbered) → AreAsked es → AreProper es
all_proper [] h = tt
all_proper (x ∷ es) h = (read_proper h.0.0 (Change x.edit) h.0.1, all_proper es h.1)
