use Rattle.std.proofs.Common.{◌≡◌, option_and_then, Result, Ok, Err, IfOk, sym, ap, ◌∙◌}
use Rattle.wb_text.specs.Texts.Books.{if_text_of}
use Rattle.wb_reading.proofs.Finding.{in_text}
use Rattle.wb_reading.proofs.book_of.Goals as goal

same_if : {T E X : Type 0} (f : T → X) (x y : X) (r : Result T E) → x ≡ y → IfOk r (λ t. f t ≡ x) → IfOk r (λ t. f t ≡ y)
same_if f x y (Ok t) e h = h ∙ e
same_if f x y (Err why) e h = h

pub returns-clause-told : goal.returns-clause-told
returns-clause-told c =
    let text = c.args.text.now in
    same_if _ _ _ c.same_told.result (ap (option_and_then (if_text_of text)) c.in_ok-told.ensures ∙ sym (in_text text)) c.same_told.ensures.told
