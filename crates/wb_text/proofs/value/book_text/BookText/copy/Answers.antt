use Rattle.std.proofs.Common.{sym, subst, ◌∙◌}
use Rattle.wb_text.specs.Texts.Books.{IsBookText}
use Rattle.wb_text.proofs.value.book_text.BookText.copy.Goals as goal

pub new-requires : goal.new-requires
new-requires c = subst IsBookText (sym (c.in-Ok.ensures.ok ∙ c.as_str.ensures.same)) c.as_str.ensures.book
