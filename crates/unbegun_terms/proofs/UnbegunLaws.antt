-- The term of a chart of a table is unbegun, and so are its nets.
use Rattle.std.specs.Prelude.{ℕ, ◌==◌, Bool, true, false, List, [], ◌∷◌, ◌≡◌, refl, length}
use Rattle.std.proofs.Common.{sym, subst, get_or}
use Rattle.chart_term.specs.Tables.{Tables, net_count, choose, nth_tree, net_of, node_of}
use Rattle.chart_term.specs.Terms.{Tree, Nil}
use Rattle.term_tables.specs.NetValues.{NetsValue}
use Rattle.term_laws.specs.FullSoundness.{AreSoundNets}
use Rattle.certificates.specs.CertificateLaws.{IsUnbegun}
use Rattle.msc_meaning.specs.Tables.{Table}
use Rattle.table_terms.specs.TableLaws.{TableTermsAreSound}
use Rattle.table_terms.specs.TableTerms.{IsTermOf, chart_made, numbered_chart}
use Rattle.unbegun_terms.specs.UnbegunLaws.{TermsAreUnbegun}
use Rattle.unbegun_terms.proofs.MadeUnbegun.{AreUnbegunTables, node_unbegun, judged_unbegun}

ends_nil : (labels : ℕ) (es : Tables) → AreSoundNets labels es → (n m : ℕ) → get_or (net_of es n).ends m false ≡ true → node_of es n m ≡ Nil
ends_nil labels [] h n m q = refl
ends_nil labels (e ∷ es) h n m q = by (n == net_count es) q (λ r. ends_nil labels es h.0 n m r)
  where
    by : (t : Bool) → get_or (choose t e.net (net_of es n)).ends m false ≡ true → (get_or (net_of es n).ends m false ≡ true → node_of es n m ≡ Nil) → choose t (nth_tree e.nodes m) (node_of es n m) ≡ Nil
    by true q f = h.4 m q
    by false q f = f q

chart_unbegun : (table : Table) (name : List ℕ) → AreUnbegunTables (chart_made table name).tables × IsUnbegun (chart_made table name).term
chart_unbegun table name = judged_unbegun [] (numbered_chart table name) tt

nodes_of_chart : (table : Table) (name : List ℕ) (v : NetsValue) (x : Tree) → IsTermOf table name v x → (n m : ℕ) → IsUnbegun (node_of v.tables n m)
nodes_of_chart table name v x is n m = subst (λ (v : NetsValue). IsUnbegun (node_of v.tables n m)) (sym is.nets) (node_unbegun (chart_made table name).tables (chart_unbegun table name).0 n m)

pub terms_are_unbegun : TableTermsAreSound → TermsAreUnbegun
terms_are_unbegun sound = record {
  term = λ table name v x is. subst IsUnbegun (sym is.term) (chart_unbegun table name).1;
  nets = λ table name v x graphs quiet is can. record {
    nodes = nodes_of_chart table name v x is;
    over = ends_nil (length v.labels) v.tables (sound table name v x graphs quiet is can).nets;
  };
}
