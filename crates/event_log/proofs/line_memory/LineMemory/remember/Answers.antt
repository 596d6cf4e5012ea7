use Rattle.std.proofs.Common.{◌≡◌, ◌<◌, ◌≤◌, ◌+◌, ◌++◌, List, ℕ, [], ◌∷◌, length, length-append, rules, arith, sym, subst}
use Rattle.event_log.specs.Memories.{LineSort, IsKnown, SaysBehind, AreKnown, IsNumberIn, line_bytes}
use Rattle.event_log.specs.declared.line_memory.KnownLine.{KnownLine}
use Rattle.event_log.specs.declared.line_memory.NumberedLine.{NumberedLine}
use Rattle.event_log.specs.declared.line_memory.TheConstants.{MOST_LINES, MOST_BYTES}
use Rattle.event_log.proofs.Remembering.{known_push}
use Rattle.event_log.proofs.line_memory.LineMemory.remember.Goals as goal

-- the line that is added has the bytes and the meaning that were given
pub invariant_of-self-2 : goal.invariant_of-self-2
invariant_of-self-2 g c =
    let i = c.self.inside in
    let s = c.args.self.now in
    let line = c.in_ok-line.line in
    let room : (length i.known.items < MOST_LINES) × (i.bytes + length c.args.bytes.now ≤ MOST_BYTES) = search rules in
    let bytes : line.bytes.items ≡ c.args.bytes.now = search rules in
    let meaning : line.meaning ≡ c.args.line.now = search rules in
    let items : c.push.new.self.items ≡ i.known.items ++ line ∷ [] = search rules in
    let says : SaysBehind g.M.LineMeaning.rules s.form s.version line.bytes.items line.meaning.says =
    subst (λ (b : List ℕ). SaysBehind g.M.LineMeaning.rules s.form s.version b line.meaning.says) (sym bytes) (subst (λ (m : NumberedLine _). SaysBehind g.M.LineMeaning.rules s.form s.version c.args.bytes.now m.says) (sym meaning) c.requires.says) in
    let number : IsNumberIn g.M.LineMeaning.rules s.labels line.meaning.says line.meaning.number = subst (λ (m : NumberedLine _). IsNumberIn g.M.LineMeaning.rules s.labels m.says m.number) (sym meaning) c.requires.number in
    let is : IsKnown g.M.LineMeaning.rules s.labels s.form s.version line = record { says = says; number = number } in
    let known : AreKnown g.M.LineMeaning.rules s.labels s.form s.version i.known.items = subst (λ (t : LineSort). AreKnown g.M.LineMeaning.rules t.labels t.form t.version i.known.items) c.self.view_is c.self.invariant.0 in
    let more = known_push g.M.LineMeaning.rules s.labels s.form s.version i.known.items line i.bytes known is c.self.invariant.2 in
    let fits : line_bytes (i.known.items ++ line ∷ []) ≤ i.bytes + length c.args.bytes.now = subst (λ (b : List ℕ). line_bytes (i.known.items ++ line ∷ []) ≤ i.bytes + length b) bytes more.1 in
    let count : length (i.known.items ++ line ∷ []) ≤ MOST_LINES = omega (arith, room.0, length-append i.known.items (line ∷ [])) in
    subst (λ (t : LineSort). AreKnown g.M.LineMeaning.rules t.labels t.form t.version c.push.new.self.items × (length c.push.new.self.items ≤ MOST_LINES) × (line_bytes c.push.new.self.items ≤ i.bytes + length c.args.bytes.now) × (i.bytes + length c.args.bytes.now ≤ MOST_BYTES)) (sym c.self.view_is)
    (subst (λ (ks : List (KnownLine _)). AreKnown g.M.LineMeaning.rules s.labels s.form s.version ks × (length ks ≤ MOST_LINES) × (line_bytes ks ≤ i.bytes + length c.args.bytes.now) × (i.bytes + length c.args.bytes.now ≤ MOST_BYTES)) (sym items)
    (more.0, count, fits, room.1))
