-- The empty term is sound, and has no events, so that a judge can begin with it.
use Rattle.std.specs.Prelude.{◌≡◌, []}
use Rattle.std.proofs.Common.{sym, subst}
use Rattle.msc_base.specs.Patterns.{seq}
use Rattle.term_tables.specs.NetValues.{NetsValue}
use Rattle.chart_term.specs.Terms.{Tree, Nil}
use Rattle.term_laws.proofs.SoundForms.{constructors_keep_soundness}
use Rattle.trace_judge.specs.Sets.{IsSoundFor}

pub sound_nil : (v : NetsValue) (x : Tree) → v ≡ record { labels = []; tables = [] } → x ≡ Nil → IsSoundFor v x
sound_nil v x p q = subst (λ (w : NetsValue). IsSoundFor w x) (sym p) (subst (IsSoundFor (record { labels = []; tables = [] })) (sym q) (record {
  full = record { nets = tt; term = (constructors_keep_soundness.join 0 [] seq [] tt tt).sound };
  placed = record { places = λ n. []; nets = tt; term = tt };
}))
