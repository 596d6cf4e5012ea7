-- What a block stores: words, of which the first stands apart, and events.
use Rattle.std.specs.Prelude.{ℕ, List, [], ◌∷◌}
use Rattle.bit_sets.specs.declared.sets.Sets.{Sets}
use Rattle.bit_sets.specs.declared.sets.Form.{Form}
use Rattle.bit_sets.specs.declared.sets.Form.TheVariants as form

abbrev pub first_in : Form → ℕ
first_in (form.Few w) = w
first_in (form.Many m) = m.value.first

abbrev pub words_in : Form → List ℕ
words_in (form.Few w) = []
words_in (form.Many m) = m.value.words.items

abbrev pub events_in : Form → List ℕ
events_in (form.Few w) = []
events_in (form.Many m) = m.value.events.items

-- the first word
abbrev pub first_of : Sets → ℕ
first_of s = first_in s.form

-- the words behind the first
abbrev pub rest_of : Sets → List ℕ
rest_of s = words_in s.form

-- all words
abbrev pub words_of : Sets → List ℕ
words_of s = first_of s ∷ rest_of s

-- the events
abbrev pub events_of : Sets → List ℕ
events_of s = events_in s.form
