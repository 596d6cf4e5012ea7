-- Serves private contracts alone.
-- The JSON objects that are printed, as data.
use Rattle.std.specs.Prelude.{ℕ, List, codes}
use Rattle.serde_json.specs.Data.{Data, number, unsigned, string, object, member, no_members}
use Rattle.msc_base.specs.declared.verdict.Verdict.{Verdict}
use Rattle.msc_base.specs.declared.verdict.Verdict.TheVariants.{Conforms, Fails, Early, TooLarge}

abbrev pub verdict_data : Verdict → Data
verdict_data (Conforms events) = object (member (codes "events") (number (unsigned events)) (member (codes "verdict") (string (codes "conforms")) no_members))
verdict_data (Fails event line) =
    object (member (codes "event") (number (unsigned event)) (member (codes "line") (number (unsigned line)) (member (codes "verdict") (string (codes "fails")) no_members)))
verdict_data (Early events) = object (member (codes "events") (number (unsigned events)) (member (codes "verdict") (string (codes "stops early")) no_members))
verdict_data (TooLarge event) = object (member (codes "event") (number (unsigned event)) (member (codes "verdict") (string (codes "too large")) no_members))

abbrev pub accepted_data : ℕ → Data
accepted_data charts = object (member (codes "charts") (number (unsigned charts)) (member (codes "verdict") (string (codes "accepted")) no_members))

abbrev pub fault_data : List ℕ → Data
fault_data words = object (member (codes "fault") (string words) no_members)
