-- Serves private contracts alone.
-- What becomes of a tag above a part, by what the part is there.
use Rattle.std.specs.Option.{option_copied}
use Rattle.std.specs.Prelude.{List}
use Rattle.msc_unfolding.specs.Unfoldings.{Tag, past_level}
use Rattle.msc_meaning.specs.Ties.{past_inline, past_reference}
use Rattle.expanded_charts.specs.declared.above.Above.{Above}
use Rattle.expanded_charts.specs.declared.above.Above.TheVariants.{Level, Inline, Reference}

abbrev pub above_view : Above → Tag → List Tag
above_view Level = past_level
above_view (Inline called name) = past_inline called.now.calls (option_copied name)
above_view (Reference called name joins) = past_reference called.now.calls (option_copied name) joins.now
