use Rattle.std.proofs.Common.{◌≡◌, List, ℕ, Option, Result, Ok, Err, IfOk, ap, ◌∙◌}
use Rattle.wb_text.specs.Said.{Line}
use Rattle.wb_text.specs.Parsed.Lines.{book_of, ReadsLines}
use Rattle.wb_text.proofs.Parsed.Book.{book_back}
use Rattle.wb_text.proofs.parsing.text.read_lines.Goals as goal

reads : (text bytes : List ℕ) (read : Option (List Line)) → bytes ≡ text → read ≡ book_of bytes → ReadsLines text read
reads text bytes read e f = λ w h t. f ∙ ap book_of (e ∙ t) ∙ book_back w h

if_ok : {T E : Type 0} (P Q : T → Type 0) (r : Result T E) → ((x : T) → P x → Q x) → IfOk r P → IfOk r Q
if_ok P Q (Ok x) f h = f x h
if_ok P Q (Err e) f h = h

pub returns-clause-whole : goal.returns-clause-whole
returns-clause-whole c = if_ok _ _ c.book_of.result (λ r h. reads c.args.text.now c.as_bytes.result.now _ c.as_bytes.ensures.value h) c.book_of.ensures

pub returns-clause-lines : goal.returns-clause-lines
returns-clause-lines c = if_ok _ _ c.book_of.result (λ r h. h ∙ ap book_of c.as_bytes.ensures.value) c.book_of.ensures
