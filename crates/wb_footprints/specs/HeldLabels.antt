-- Labels as they are kept: in one list of bytes, or one alone.
use Rattle.std.specs.Prelude.{List, [], ◌∷◌}
use Rattle.wb_footprints.specs.declared.places.labels.HeldLabels.{HeldLabels}
use Rattle.wb_footprints.specs.declared.places.labels.HeldLabels.TheVariants.{Listed, One}
use Rattle.wb_footprints.specs.Texts.{Text}

-- the labels
abbrev pub texts_of : HeldLabels → List Text
texts_of (Listed ts) = ts
texts_of (One t) = t ∷ []
