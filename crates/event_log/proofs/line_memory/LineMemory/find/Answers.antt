use Rattle.std.proofs.Common.{◌≡◌, ◌<◌, ℕ, List, length, rules, sym, subst, slice_index_or}
use Rattle.event_log.specs.Memories.{LineSort, SaysBehind, IsKnown, AreKnown}
use Rattle.event_log.proofs.line_memory.LineMemory.find.Goals as goal

pub returns-then-eq-clause-says : goal.returns-then-eq-clause-says
returns-then-eq-clause-says g c =
    let s = c.args.self.now in
    let kept = c.deref.result.now in
    let index = c.in_ok-index.index in
    let line = c.in_ok-line.line.now in
    let are : AreKnown g.M.LineMeaning.rules s.labels s.form s.version kept =
    subst (λ ks. AreKnown g.M.LineMeaning.rules s.labels s.form s.version ks) (sym c.deref.ensures.value)
    (subst (λ (t : LineSort). AreKnown g.M.LineMeaning.rules t.labels t.form t.version c.self.inside.known.items) c.self.view_is c.self.invariant.0) in
    let within : index < length kept = search rules in
    let at : slice_index_or kept index line ≡ line = search rules in
    let known : IsKnown g.M.LineMeaning.rules s.labels s.form s.version line = subst (λ k. IsKnown g.M.LineMeaning.rules s.labels s.form s.version k) at (are index line within) in
    let same : line.bytes.items ≡ c.args.bytes.now = search rules in
    subst (λ (b : List ℕ). SaysBehind g.M.LineMeaning.rules s.form s.version b line.meaning.says) same known.says
