-- What is written straight is the compact text of the reply.
use Rattle.std.proofs.Common.{◌≡◌, ℕ, ℤ, pos, negsuc, List, ◌++◌, Bool, true, false, codes, append_assoc, subst, sym, refl, ap, ◌∙◌}
use Rattle.std.specs.Prelude.{decimal}
use Rattle.std.specs.List.{join_by}
use Rattle.serde_json.proofs.OnLiterals.{serde_json_on_literals}
use Rattle.serde_json.specs.Data.{number, unsigned}
use Rattle.serde_json.specs.Written.{compact_text}
use Rattle.wb_history.specs.declared.query.Answer.{Answer}
use Rattle.wb_history.specs.declared.query.Answer.TheVariants.{Value, Size, Locale, InForce}
use Rattle.wb_machine.specs.Printed.{numbers_text, undone_text, dependents_text, value_text, size_text, locale_text, in_force_text}
use Rattle.wb_machine.specs.Pieces.{bracketed}
use Rattle.wb_machine.specs.Replies.{answer_data, numbers_data, reply_of}
use Rattle.wb_machine.specs.declared.replies.reply.Reply.TheVariants.{Edited, Undone, Cascaded, Redone, Listed, Counted}
use Rattle.wb_machine.proofs.Pieces.{items_are}

pub edited_is : (k n : ℕ) → numbers_text (codes "{\"edit\":") k (codes ",\"n\":") (decimal n) ≡ reply_of (Edited k n)
unfolding serde_json_on_literals
edited_is k n = refl

pub undone_is : (k n : ℕ) → numbers_text (codes "{\"n\":") n (codes ",\"undone\":") (decimal k) ≡ reply_of (Undone k n)
unfolding serde_json_on_literals
undone_is k n = refl

pub redone_is : (k n : ℕ) → numbers_text (codes "{\"n\":") n (codes ",\"redone\":") (decimal k) ≡ reply_of (Redone k n)
unfolding serde_json_on_literals
redone_is k n = refl

pub counted_is : (n w : ℕ) → numbers_text (codes "{\"edits\":") n (codes ",\"writes\":") (decimal w) ≡ reply_of (Counted n w)
unfolding serde_json_on_literals
counted_is n w = refl

-- the parts of the text of what was undone, as they are written
pub undone_parts : (d js : List ℕ) → (codes "{\"n\":" ++ (d ++ codes ",\"undone\":[")) ++ (js ++ codes "]}") ≡ codes
    "{\"n\":" ++ (d ++ (codes ",\"undone\":[" ++ (js ++ codes "]}")))
undone_parts d js = ap (λ t. codes "{\"n\":" ++ t) (append_assoc d (codes ",\"undone\":[") (js ++ codes "]}"))

-- numbers in brackets, and what follows them
listed_in : (ks : List ℕ) → join_by decimal (codes ",") ks ++ codes "]}" ≡ (join_by decimal (codes ",") ks ++ codes "]") ++ codes "}"
listed_in ks = sym (append_assoc (join_by decimal (codes ",") ks) (codes "]") (codes "}"))

numbers_are : (ks : List ℕ) → bracketed decimal ks ≡ compact_text (numbers_data ks)
numbers_are ks = items_are (λ k. number (unsigned k)) decimal (λ k. refl) ks

pub cascaded_is : (ks : List ℕ) (n : ℕ) → undone_text n ks ≡ reply_of (Cascaded ks n)
unfolding serde_json_on_literals
cascaded_is ks n =
    ap (λ t. codes "{\"n\":" ++ (decimal n ++ (codes ",\"undone\":[" ++ t))) (listed_in ks)
    ∙ ap (λ t. codes "{\"n\":" ++ (decimal n ++ (codes ",\"undone\":" ++ (t ++ codes "}")))) (numbers_are ks)

pub listed_is : (ks : List ℕ) → dependents_text ks ≡ reply_of (Listed ks)
unfolding serde_json_on_literals
listed_is ks = ap (λ t. codes "{\"dependents\":[" ++ t) (listed_in ks) ∙ ap (λ t. codes "{\"dependents\":" ++ (t ++ codes "}")) (numbers_are ks)

pub value_is : (z : ℤ) → value_text z ≡ compact_text (answer_data (Value z))
unfolding serde_json_on_literals
value_is (pos n) = refl
value_is (negsuc n) = refl

pub size_is : (n : ℕ) → size_text n ≡ compact_text (answer_data (Size n))
unfolding serde_json_on_literals
size_is n = refl

pub locale_is : (l : ℕ) → locale_text l ≡ compact_text (answer_data (Locale l))
unfolding serde_json_on_literals
locale_is l = refl

pub in_force_is : (b : Bool) → in_force_text b ≡ compact_text (answer_data (InForce b))
unfolding serde_json_on_literals
in_force_is true = refl
in_force_is false = refl

-- what is said of the text of an answer, by which answer it is
pub by_answer : (P : List ℕ → Type 0) (a b : Answer) (t : List ℕ) → a ≡ b → t ≡ compact_text (answer_data b) → P t → P (compact_text (answer_data a))
by_answer P a b t is text told = subst P (text ∙ ap (λ x. compact_text (answer_data x)) (sym is)) told
