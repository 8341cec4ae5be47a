-- The grammar of literals, apart from how they are read: which texts spell which values.
use Rattle.std.specs.Prelude.{◌≡◌, ◌≢◌, ℕ, ◌^◌, ◌<◌, ℤ, pos, List, [], ◌∷◌, ◌++◌, codes, Option, Some, None}
use Rattle.wb_sets.specs.Labels.{IsLabel}
use Rattle.wb_literals.specs.Spelling.{IsNatural, IsInteger}
use Rattle.wb_literals.specs.Set.{Items, nothing, integers, pairs, triples, texts}
use Rattle.wb_literals.specs.Domain.{Domain, rectangle, set}
use Rattle.wb_literals.specs.declared.range.Upper.{Upper}
use Rattle.wb_literals.specs.declared.range.Upper.TheVariants.{To, Below, Count}
use Rattle.wb_literals.specs.declared.range.Stride.{Stride}
use Rattle.wb_literals.specs.declared.range.RangeLiteral.{RangeLiteral}
use Rattle.wb_literals.specs.declared.rectangle.RectangleLiteral.{RectangleLiteral}
use Rattle.wb_literals.specs.declared.index.IndexLiteral.{IndexLiteral}
use Rattle.wb_literals.specs.declared.index.IndexLiteral.TheVariants.{Integer, Pair, Triple}
use Rattle.wb_literals.specs.declared.index.GridLiteral.{GridLiteral}
use Rattle.wb_literals.specs.declared.index.GridLiteral.TheVariants as grids
use Rattle.wb_literals.specs.declared.mapping.MappingLiteral.{MappingLiteral}
use Rattle.wb_literals.specs.declared.mapping.MappingLiteral.TheVariants as mappings
use Rattle.wb_literals.specs.declared.rectangle.RectangleLiteral.TheVariants.{Rank1, Rank2, Rank3}

-- any number of spaces, which may stand between two tokens
abbrev pub AreSpaces : List ℕ → Type 0
AreSpaces [] = Unit {0}
AreSpaces (b ∷ bytes) = (b ≡ 32) × AreSpaces bytes

-- a word with a space or more on each side
abbrev pub IsWord : List ℕ → List ℕ → Type 0
IsWord word text = (s t : List ℕ) × AreSpaces s × AreSpaces t × (text ≡ (32 ∷ s) ++ (word ++ (32 ∷ t)))

-- `..` and the last bound, `..<` and the bound above, or `..#` and a count (Chapel Language Specification, Ranges)
abbrev pub IsUpper : List ℕ → Upper → Type 0
IsUpper text (To n) = (s b : List ℕ) × AreSpaces s × IsInteger b n × (text ≡ codes ".." ++ (s ++ b))
IsUpper text (Below n) = (s b : List ℕ) × AreSpaces s × IsInteger b n × (text ≡ codes "..<" ++ (s ++ b))
IsUpper text (Count n) = (s b : List ℕ) × AreSpaces s × IsNatural b n × (n < 2 ^ 63) × (text ≡ codes "..#" ++ (s ++ b))

-- `align` and an alignment, or nothing
abbrev pub IsAlign : List ℕ → Option ℤ → Type 0
IsAlign text None = text ≡ []
IsAlign text (Some t) = (w n : List ℕ) × IsWord (codes "align") w × IsInteger n t × (text ≡ w ++ n)

-- `by`, a stride other than 0 and an alignment, or nothing
abbrev pub IsBy : List ℕ → Option Stride → Type 0
IsBy text None = text ≡ []
IsBy text (Some s) = (w n a : List ℕ) × IsWord (codes "by") w × IsInteger n s.stride × (s.stride ≢ pos 0) × IsAlign a s.align × (text ≡ w ++ (n ++ a))

-- two bounds, or a bound and a count, and a stride
abbrev pub IsRange : List ℕ → RangeLiteral → Type 0
IsRange text r = (low s up by : List ℕ) × IsInteger low r.low × AreSpaces s × IsUpper up r.upper × IsBy by r.stride × (text ≡ low ++ (s ++ (up ++ by)))

-- a comma, and spaces round it
abbrev pub IsComma : List ℕ → Type 0
IsComma text = (s t : List ℕ) × AreSpaces s × AreSpaces t × (text ≡ s ++ (44 ∷ t))

-- further items, each after a comma
abbrev pub AreMore : {X : Type 0} → (List ℕ → X → Type 0) → List ℕ → List X → Type 0
AreMore Item text [] = text ≡ []
AreMore Item text (x ∷ xs) = (c a b : List ℕ) × IsComma c × Item a x × AreMore Item b xs × (text ≡ c ++ (a ++ b))

-- one or more items, separated by commas
abbrev pub AreListed : {X : Type 0} → (List ℕ → X → Type 0) → List ℕ → List X → Type 0
AreListed Item text [] = ⊥
AreListed Item text (x ∷ xs) = (a b : List ℕ) × Item a x × AreMore Item b xs × (text ≡ a ++ b)

-- items between an opening and a closing token
abbrev pub IsEnclosed : {X : Type 0} → List ℕ → List ℕ → (List ℕ → X → Type 0) → List ℕ → List X → Type 0
IsEnclosed left right Item text xs = (s x t : List ℕ) × AreSpaces s × AreListed Item x xs × AreSpaces t × (text ≡ left ++ (s ++ (x ++ (t ++ right))))

abbrev pub ranges_of : RectangleLiteral → List RangeLiteral
ranges_of (Rank1 a) = a ∷ []
ranges_of (Rank2 a b) = a ∷ b ∷ []
ranges_of (Rank3 a b c) = a ∷ b ∷ c ∷ []

-- 1 to 3 ranges in braces (Chapel Language Specification, Domains)
abbrev pub IsRectangle : List ℕ → RectangleLiteral → Type 0
IsRectangle text r = IsEnclosed (codes "{") (codes "}") IsRange text (ranges_of r)

-- the numbers that stand in parentheses
abbrev pub places_of : IndexLiteral → List ℤ
places_of (Integer i) = []
places_of (Pair i j) = i ∷ j ∷ []
places_of (Triple i j k) = i ∷ j ∷ k ∷ []

-- an integer, or 2 or 3 of them in parentheses
abbrev pub IsIndex : List ℕ → IndexLiteral → Type 0
IsIndex text (Integer i) = IsInteger text i
IsIndex text (Pair i j) = IsEnclosed (codes "(") (codes ")") IsInteger text (i ∷ j ∷ [])
IsIndex text (Triple i j k) = IsEnclosed (codes "(") (codes ")") IsInteger text (i ∷ j ∷ k ∷ [])

-- an index of rank 2, as the list of its numbers
abbrev pub IsPair : List ℕ → List ℤ → Type 0
IsPair text p = (i j : ℤ) × IsIndex text (Pair i j) × (p ≡ i ∷ j ∷ [])

-- an index of rank 3, as the list of its numbers
abbrev pub IsTriple : List ℕ → List ℤ → Type 0
IsTriple text p = (i j k : ℤ) × IsIndex text (Triple i j k) × (p ≡ i ∷ j ∷ k ∷ [])

-- a label in quotes: no quote is in a label, and spaces within the quotes are part of it
abbrev pub IsText : List ℕ → List ℕ → Type 0
IsText text label = IsLabel label × (text ≡ codes "\"" ++ (label ++ codes "\""))

-- any number of indices of one rank, or of texts, in braces (Chapel Language Specification, Domains)
abbrev pub IsSet : List ℕ → Items → Type 0
IsSet text nothing = (s : List ℕ) × AreSpaces s × (text ≡ codes "{" ++ (s ++ codes "}"))
IsSet text (integers is) = IsEnclosed (codes "{") (codes "}") IsInteger text is
IsSet text (pairs ps) = IsEnclosed (codes "{") (codes "}") IsPair text ps
IsSet text (triples ts) = IsEnclosed (codes "{") (codes "}") IsTriple text ts
IsSet text (texts ls) = IsEnclosed (codes "{") (codes "}") IsText text ls

-- a rectangle or a set
abbrev pub IsDomain : List ℕ → Domain → Type 0
IsDomain text (rectangle r) = IsRectangle text r
IsDomain text (set x) = IsSet text x

abbrev pub extents_of : GridLiteral → List ℤ
extents_of (grids.Rank1 n) = n ∷ []
extents_of (grids.Rank2 n m) = n ∷ m ∷ []
extents_of (grids.Rank3 n m l) = n ∷ m ∷ l ∷ []

-- 1 to 3 integers in brackets
abbrev pub IsGrid : List ℕ → GridLiteral → Type 0
IsGrid text g = IsEnclosed (codes "[") (codes "]") IsInteger text (extents_of g)

-- a comma, a grid and the closing parenthesis
abbrev pub IsLastGrid : List ℕ → GridLiteral → Type 0
IsLastGrid text g = (c x t : List ℕ) × IsComma c × IsGrid x g × AreSpaces t × (text ≡ c ++ (x ++ (t ++ codes ")")))

-- `none`, or a distribution with its parts (Chapel Language Specification, Domain Maps)
abbrev pub IsMapping : List ℕ → MappingLiteral → Type 0
IsMapping text mappings.Whole = text ≡ codes "none"
IsMapping text (mappings.Block box g) = (s b l : List ℕ) × AreSpaces s × IsRectangle b box × IsLastGrid l g × (text ≡ codes "blockDist(" ++ (s ++ (b ++ l)))
IsMapping text (mappings.Cyclic start g) = (s i l : List ℕ) × AreSpaces s × IsIndex i start × IsLastGrid l g × (text ≡ codes "cyclicDist(" ++ (s ++ (i ++ l)))
IsMapping text (mappings.BlockCyclic start sizes g) = (s i c j l : List ℕ) × AreSpaces s × IsIndex i start × IsComma c × IsIndex j sizes × IsLastGrid l g
    × (text ≡ codes "blockCycDist(" ++ (s ++ (i ++ (c ++ (j ++ l)))))
