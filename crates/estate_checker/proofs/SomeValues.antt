-- What follows of a value, if there is one.
use Rattle.std.proofs.Common.{IfSome, None, Option, Some}

pub if_some_map : {A : Type 0} {P Q : A → Type 0} (found : Option A) → ((x : A) → P x → Q x) → IfSome found P → IfSome found Q
if_some_map None follows holds = tt
if_some_map (Some x) follows holds = follows x holds
