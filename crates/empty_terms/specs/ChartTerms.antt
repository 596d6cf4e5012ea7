-- Terms as charts have them, over the nets as charts have them.
use Rattle.std.specs.Prelude.{ℕ}
use Rattle.chart_term.specs.Properties.{IsBelow}
use Rattle.chart_term.specs.Tables.{Tables, net_count, node_of, terms_over}
use Rattle.chart_term.specs.Terms.{Tree}
use Rattle.term_laws.specs.FullSoundness.{IsFullySound}
use Rattle.certificates.specs.CertificateLaws.{IsUnbegun, AreUnbegunNets}

-- no turn of a loop has begun, walks are from the start to an end, nets are in the tables, and the term of a node names only older nets
pub record IsChartTerm (w : Tables) (x : Tree) : Type 0 where
  pub unbegun : IsUnbegun x
  pub within : IsBelow (net_count w) x
  pub nodes : AreUnbegunNets (terms_over w)
  pub older : (n m : ℕ) → IsBelow n (node_of w n m)

-- a sound term is one, as soon as nothing of it and its nets has begun
abbrev pub SoundTermsServe : Type 0
SoundTermsServe = (labels : ℕ) (w : Tables) (x : Tree) → IsFullySound labels w x → IsUnbegun x → AreUnbegunNets (terms_over w) → IsChartTerm w x
