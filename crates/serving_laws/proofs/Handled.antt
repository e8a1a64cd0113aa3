-- How a request is handled, at the one state at which it is answered.
use Rattle.std.proofs.Common.{◌≡◌, List, [], ◌∷◌, ◌++◌, None, refl, sym, subst, inl}
use Rattle.split_base.specs.declared.disk.Disk.{Ghosts}
use Rattle.host_journal.specs.States.{State}
use Rattle.serving.specs.Exchanges.{Answered, Exchange}
use Rattle.serving.specs.Serving.{host_service}
use Rattle.requests.specs.Cases.{Responds}
use Rattle.serving_laws.specs.Answering.{HasAnswer}
use Rattle.serving_laws.specs.Handling.{AreHandled, IsHandled}
use Rattle.serving_laws.specs.Heard.{Taken, TakesSteps, WaitsByStep}
use Rattle.serving_laws.specs.Sealing.{IsSealedReply, TellsNoStep}
use Rattle.serving_laws.proofs.Answered.{PublishesShut, settled_has, settled_ready, stepped_has}
use Rattle.serving_laws.proofs.HeardRuns.{GoesAt, goes_nowhere, goes_on}
use Rattle.serving_laws.proofs.Integral.{HasOrigin, HoldsKeys, sent_by}
use Rattle.serving_laws.proofs.Moved.{answered_at, answered_before, steps_move}
use Rattle.serving_laws.proofs.Refused.{PublishesQuietly, at_once_stays, steps_stay}
use Rattle.serving_laws.proofs.Sealed.{SendsSealed, at_once_sealed, at_once_tells, steps_sealed}

-- the laws of the machine
pub record StepLaws : Type 0 where
  pub publishes : PublishesQuietly
  pub shut : PublishesShut
  pub sends : SendsSealed
  pub origin : HasOrigin
  pub keys : HoldsKeys

module _ (laws : StepLaws) {D : Type 0} (d : Ghosts D) where
  module _ (x : Exchange (D × State)) where
    -- the state at which the request is answered, how it is handled there, and its steps
    record Handles : Type 0 where
      settled : State
      is : IsHandled d x settled
      goes : d.is_honest x.before.0 → WaitsByStep x.before.1 → GoesAt d x settled

    -- a request that leaves the state as it was
    stays : x.after.1 ≡ x.before.1 → HasAnswer d x x.before.1 → IsSealedReply d x x.before.1 → (d.is_honest x.before.0 → TellsNoStep x x.before.1) → Handles
    stays same replied sealed tells = record {
      settled = x.before.1;
      is = record {
        at = answered_before d x;
        moved = inl same;
        replied = replied;
        refused = λ none. inl same;
        sealed = sealed;
        keyed = λ event makes. sent_by laws.origin laws.keys x x.before.1.secret x.before.1.kept event makes;
      };
      goes = λ honest waits. goes_nowhere d x waits same (tells honest);
    }

    -- a request whose reply is that of no step
    quiet : x.after.1 ≡ x.before.1 → HasAnswer d x x.before.1 → TellsNoStep x x.before.1 → Handles
    quiet same replied tells = stays same replied (IsSealedReply.nothing tells) (λ honest. tells)

    handles : Responds d x.before.0 x.after.0 x.head x.body x.moment x.before.1 x.after.1 x.due.said → Handles
    handles (Responds.no_route a b is c) = quiet is (HasAnswer.no_route a is c) (TellsNoStep.no_route a c)
    handles (Responds.method allow a b is c) = quiet is (HasAnswer.method allow a is c) (TellsNoStep.method allow a c)
    handles (Responds.at_once route routed settles) =
        stays (at_once_stays d x.before.0 x.after.0 x.before.1 x.after.1 x.due.said settles) (settled_has d x route routed settles) (at_once_sealed d x x.before.1 settles)
        (λ honest. at_once_tells d x honest settles)
    handles (Responds.stepped route between settled routed settles one steps two) = record {
      settled = settled;
      is = record {
        at = answered_at d x between settled None settles;
        moved = steps_move d x route between settled routed steps;
        replied = stepped_has d x laws.shut route between settled routed (settled_ready d x.before.0 between x.before.1 settled settles) one.count steps;
        refused = λ none. steps_stay d x laws.publishes none route between settled routed steps;
        sealed = steps_sealed d x laws.sends laws.shut route between settled routed steps;
        keyed = λ event makes. sent_by laws.origin laws.keys x settled.secret settled.kept event makes;
      };
      goes = λ honest waits. goes_on d x laws.shut route between settled routed honest waits settles steps;
    }
    handles (Responds.memory way led reads a is c) = quiet is (HasAnswer.memory (inl (way, led, reads)) is c) (TellsNoStep.memory (inl (way, led, reads)) c)

    pub one_handled : Responds d x.before.0 x.after.0 x.head x.body x.moment x.before.1 x.after.1 x.due.said → (settled : State) × IsHandled d x settled
    one_handled responds = let all = handles responds in (all.settled, all.is)

  -- the requests of a run, each at its state, and the steps of the machine from those same states
  pub run_handled : (w : D × State) (run : List (Exchange (D × State))) (new : D × State) → Answered (host_service d) w run new
      → (states : List State) × AreHandled d run states × (d.is_honest w.0 → WaitsByStep w.1 → (steps : List Taken) × TakesSteps run states steps)
  run_handled w [] new answered = ([], tt, λ honest waits. ([], refl))
  run_handled w (x ∷ run) new (at, is, rest) =
      let here = handles x is.responds.0 in
      let (states, all, later) = run_handled x.after run new rest in (
        here.settled ∷ states,
        (here.is, all),
        λ honest waits.
            let honest_now : d.is_honest x.before.0 = subst (λ (y : D × State). d.is_honest y.0) (sym at) honest in
            let (found, own, finds, takes, after) = here.goes honest_now (subst (λ (y : D × State). WaitsByStep y.1) (sym at) waits) in
            let (steps, goes) = later (is.responds.1.honest.0 honest_now) after in
            (found ++ (own ++ steps), (found, own, steps, refl, finds, takes, goes)),
      )
