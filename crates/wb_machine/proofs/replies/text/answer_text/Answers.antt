use Rattle.std.proofs.Common.{◌≡◌, IfOk, string_bytes, SFits, w64, rules}
use Rattle.std.proofs.lemmas.Int.{to_z-of_z}
use Rattle.wb_machine.proofs.Pieces.{piece_is}
use Rattle.wb_machine.proofs.Texts.{value_is, size_is, locale_is, in_force_is, by_answer}
use Rattle.wb_machine.proofs.replies.text.answer_text.Goals as goal

pub returns-in-Value : goal.returns-in-Value
returns-in-Value c =
    let fits : SFits w64 c.in-Value.value = search rules in
    let text = rw (to_z-of_z w64 c.in-Value.value fits) at c.value_text.ensures in
    by_answer (λ t. IfOk c.value_text.result (λ s. string_bytes s ≡ t)) _ _ _ c.in-Value.is (value_is c.in-Value.value) text

pub returns-in-Size : goal.returns-in-Size
returns-in-Size c = by_answer (λ t. IfOk c.size_text.result (λ s. string_bytes s ≡ t)) _ _ _ c.in-Size.is (size_is _) c.size_text.ensures

pub returns-in-Locale : goal.returns-in-Locale
returns-in-Locale c = by_answer (λ t. IfOk c.locale_text.result (λ s. string_bytes s ≡ t)) _ _ _ c.in-Locale.is (locale_is _) c.locale_text.ensures

pub returns-in-Piece : goal.returns-in-Piece
returns-in-Piece c = by_answer (λ t. IfOk c.piece_text.result (λ s. string_bytes s ≡ t)) _ _ _ c.in-Piece.is (piece_is _) c.piece_text.ensures

pub returns-in-InForce : goal.returns-in-InForce
returns-in-InForce c = by_answer (λ t. IfOk c.in_force_text.result (λ s. string_bytes s ≡ t)) _ _ _ c.in-InForce.is (in_force_is _) c.in_force_text.ensures
