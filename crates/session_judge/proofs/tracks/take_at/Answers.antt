use Rattle.std.proofs.Common.{arith, inl, inr, refl, subst, sym}
use Rattle.list_facts.proofs.Members.{at_among}
use Rattle.log_judge.proofs.Takings.{ok_of}
use Rattle.trace_judge.specs.Tracks.{IfHeld}
use Rattle.session_judge.specs.Tracks.{SessionValue}
use Rattle.session_judge.proofs.SessionLists.{at_read, written}
use Rattle.session_judge.proofs.tracks.take_at.Goals as goal

pub take-requires-clause-serves : goal.take-requires-clause-serves
take-requires-clause-serves g c =
    let s = c.index_mut.result.now in
    c.requires.serves s (at_among c.args.sessions.now.items c.args.place s (at_read c.args.sessions.now.items c.args.place s c.requires.there c.index_mut.ensures.value))

pub take-requires-clause-room : goal.take-requires-clause-room
take-requires-clause-room g c =
    let s = c.index_mut.result.now in
    let few = c.requires.room.2 s (at_among c.args.sessions.now.items c.args.place s (at_read c.args.sessions.now.items c.args.place s c.requires.there c.index_mut.ensures.value)) in
    omega (arith, few, c.requires.room.1)

pub returns-clause-serves : goal.returns-clause-serves
returns-clause-serves g c = λ s among.
    elim (written c.args.sessions.now.items c.args.place c.take.new.self s among) [
      | inl is ↦ subst (λ (t : SessionValue _). IfHeld (λ set. g.S.Store.serves set c.args.nets.now) t.track) (sym is) c.take.ensures.serves
      | inr there ↦ c.requires.serves s there
    ]

pub returns-clause-taken : goal.returns-clause-taken
returns-clause-taken g c =
    let s = c.index_mut.result.now in
    ok_of c.take.result (λ taken. record { session = s; next = c.take.new.self; was = at_read c.args.sessions.now.items c.args.place s c.requires.there c.index_mut.ensures.value; is = refl; takes = taken }) c.take.ensures.taken
