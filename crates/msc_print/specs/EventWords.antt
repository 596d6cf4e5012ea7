-- The tokens of events. A timer is started by `starttimer` and stopped by `stoptimer`, however it was spelled.
use Rattle.std.specs.Prelude.{ℕ, List, [], ◌∷◌, ◌++◌, Option, Some, None, codes}
use Rattle.msc_base.specs.declared.label.Kind.{Kind}
use Rattle.msc_base.specs.declared.label.Kind.TheVariants.{Output, Input, OutputLost, InputFound, Action, TimerStart, TimerStop, Timeout, Create}
use Rattle.msc_tree.specs.declared.event.RawEvent.{RawEvent}
use Rattle.msc_tree.specs.declared.event.Target.{Target}
use Rattle.msc_tree.specs.declared.event.Target.TheVariants.{Nobody, Env, Instance, Gate}
use Rattle.msc_print.specs.Words.{Words, all_words, name_words, names_behind, if_any, end_words}
use Rattle.msc_print.specs.ExpressionWords.{enclosed}

-- [ "," name ]
abbrev pub pairing_words : Option (List ℕ) → Words
pairing_words = if_any (λ pairing. codes "," ∷ pairing ∷ [])

-- [ "(" [ item { "," item } ] ")" ]
abbrev pub parameter_words : Option (List (List ℕ)) → Words
parameter_words = if_any (λ items. enclosed (name_words items))

-- name [ "," name ] [ "(" [ item { "," item } ] ")" ]
abbrev pub message_words : RawEvent → Words
message_words e = e.text ∷ (pairing_words e.pairing ++ parameter_words e.parameters)

-- the other end
abbrev pub target_words : Target → Words
target_words Nobody = []
target_words (Env None) = codes "env" ∷ []
target_words (Env (Some gate)) = codes "env" ∷ codes "via" ∷ gate ∷ []
target_words (Instance instance_name) = instance_name ∷ []
target_words (Gate reference gate) = codes "reference" ∷ reference ∷ codes "via" ∷ gate ∷ []

-- a message, where it goes or whence it comes
abbrev pub exchange_words : List ℕ → Words → RawEvent → Words
exchange_words way toward e = way ∷ (message_words e ++ (toward ++ target_words e.target))

abbrev pub act_words : Kind → RawEvent → Words
act_words Output e = exchange_words (codes "out") (codes "to" ∷ []) e
act_words Input e = exchange_words (codes "in") (codes "from" ∷ []) e
act_words OutputLost e = exchange_words (codes "out") (codes "to" ∷ codes "lost" ∷ []) e
act_words InputFound e = exchange_words (codes "in") (codes "from" ∷ codes "found" ∷ []) e
act_words Action e = codes "action" ∷ e.text ∷ []
act_words TimerStart e = codes "starttimer" ∷ message_words e
act_words TimerStop e = codes "stoptimer" ∷ message_words e
act_words Timeout e = codes "timeout" ∷ message_words e
act_words Create e = codes "create" ∷ e.text ∷ []

-- "label" name ";"
abbrev pub tag_words : Option (List ℕ) → Words
tag_words = if_any (λ event_name. codes "label" ∷ (event_name ∷ end_words))

-- [ "label" name ";" ] act [ "before" names ] [ "after" names ] end
abbrev pub event_words : RawEvent → Words
event_words e = tag_words e.order.event_name ++ (act_words e.kind e ++ (names_behind (codes "before") e.order.earlier_than ++ (names_behind (codes "after") e.order.later_than ++ end_words)))

-- "concurrent" end { single } "endconcurrent" end
abbrev pub coregion_words : List RawEvent → Words
coregion_words events = codes "concurrent" ∷ (end_words ++ (all_words event_words events ++ codes "endconcurrent" ∷ end_words))
