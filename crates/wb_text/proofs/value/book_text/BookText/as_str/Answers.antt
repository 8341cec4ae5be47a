use Rattle.std.proofs.Common.{subst}
use Rattle.wb_text.specs.Texts.Books.{IsBookText}
use Rattle.wb_text.proofs.value.book_text.BookText.as_str.Goals as goal

pub returns-clause-book : goal.returns-clause-book
returns-clause-book c = subst IsBookText c.self.view_is c.self.invariant
