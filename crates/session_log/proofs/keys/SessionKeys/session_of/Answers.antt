use Rattle.std.proofs.Common.{◌≡◌, ◌≤◌, ◌<◌, ℕ, List, length, Some, None, rules, subst, sym, ap, ◌∙◌}
use Rattle.std.specs.List.{position}
use Rattle.std.specs.Str.{bytes_eq}
use Rattle.msc_base.specs.NameTables.{with_name}
use Rattle.session_log.specs.Sessions.{HasRoom}
use Rattle.session_log.specs.declared.keys.TheConstants.{MOST_SESSIONS}
use Rattle.session_log.proofs.KeyNumbers.{with_known, room_known, no_room, number_new}
use Rattle.session_log.proofs.keys.SessionKeys.session_of.Goals as goal

pub returns-in-Some-clause-room : goal.returns-in-Some-clause-room
returns-in-Some-clause-room c =
    let names = c.self.inside.names in
    let is : position (bytes_eq c.args.key.now) names ≡ Some c.in-Some.session = search rules in
    subst (λ (ks : List (List ℕ)). HasRoom ks c.args.key.now) c.self.view_is (room_known names c.args.key.now c.in-Some.session is c.self.invariant)

pub returns-in-Some-clause-keys : goal.returns-in-Some-clause-keys
returns-in-Some-clause-keys c =
    let names = c.self.inside.names in
    let is : position (bytes_eq c.args.key.now) names ≡ Some c.in-Some.session = search rules in
    let same : with_name names c.args.key.now ≡ names = with_known names c.args.key.now c.in-Some.session is in
    let view : names ≡ c.args.self.now = c.self.view_is in
    cc

pub returns-then-session-ge-MOST_SESSIONS-clause-room : goal.returns-then-session-ge-MOST_SESSIONS-clause-room
returns-then-session-ge-MOST_SESSIONS-clause-room c =
    let names = c.self.inside.names in
    let none : position (bytes_eq c.args.key.now) names ≡ None = search rules in
    let many : MOST_SESSIONS ≤ length names = search rules in
    subst (λ (ks : List (List ℕ)). HasRoom ks c.args.key.now → ⊥) c.self.view_is (no_room names c.args.key.now none many)

pub returns-clause-number : goal.returns-clause-number
returns-clause-number c =
    let names = c.self.inside.names in
    let none : position (bytes_eq c.args.key.now) names ≡ None = search rules in
    let added : c.add.new.self ≡ with_name names c.args.key.now = search rules in
    let count : length names ≡ c.len-session.result = search rules in
    subst (λ (ks : List (List ℕ)). position (bytes_eq c.args.key.now) ks ≡ Some c.len-session.result) (sym added)
    (number_new names c.args.key.now none ∙ ap (λ (k : ℕ). Some k) count)
