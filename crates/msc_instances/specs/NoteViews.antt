-- The plain notes that the notes of the code stand for.
use Rattle.chart_text.specs.PassageViews.{scope_view}
use Rattle.msc_instances.specs.declared.notes.Note.{Note}
use Rattle.msc_instances.specs.declared.notes.Note.TheVariants as note
use Rattle.msc_instances.specs.Notes as plain

abbrev pub note_view : Note → plain.Note
note_view (note.Declared name) = plain.Declared name.now
note_view (note.Decomposed name place) = plain.Decomposed name.now place
note_view (note.Named name place scope) = plain.Named name.now place (scope_view scope)
