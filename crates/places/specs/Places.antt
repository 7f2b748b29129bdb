-- The text of a place.
use Rattle.places.specs.declared.place.Place.{Place}
use Rattle.places.specs.declared.place.Place.TheVariants.{Line, Entry}
use Rattle.places.specs.declared.place.Text.{Text}
use Rattle.places.specs.declared.place.Text.TheVariants.{Journal}

-- the text that a place is in
abbrev pub text_at : Place → Text
text_at (Line text line) = text
text_at (Entry entry) = Journal
