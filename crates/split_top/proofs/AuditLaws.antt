-- What the dialer counts of a link that is given back.
use Rattle.std.proofs.Common.{◌≡◌, ◌≢◌, ◌<◌, ℕ, List, Option, Result, Ok, Err, refl, sym, subst, arith}
use Rattle.remote_check.specs.declared.ends.FetchEnd.{FetchEnd}
use Rattle.remote_check.specs.declared.ends.FetchEnd.TheVariants as fetch
use Rattle.remote_check.specs.Requests.{AsksOnce}
use Rattle.split_base.specs.Faults.{counted}
use Rattle.split_base.specs.Links.{link_faults}
use Rattle.rule_verdicts.specs.declared.verdict.Verdict.{Verdict}
use Rattle.split_top.specs.Audits.{faults_behind}

module _ (reads reads_now writes writes_now before after : ℕ) (fresh : link_faults reads writes ≡ 0)
    (whole : link_faults reads_now writes_now ≡ 0 → after ≡ before) (fault : 0 < link_faults reads_now writes_now → after ≡ counted before)
  where
    no_fault : reads_now ≡ reads → writes_now ≡ writes → (answer : Result Verdict FetchEnd) → answer ≢ Err fetch.LinkFault → after ≡ faults_behind before answer
    no_fault r w (Ok verdict) other = whole (omega (arith, r, w, fresh))
    no_fault r w (Err fetch.Reply) other = whole (omega (arith, r, w, fresh))
    no_fault r w (Err (fetch.Status code)) other = whole (omega (arith, r, w, fresh))
    no_fault r w (Err (fetch.NotText line)) other = whole (omega (arith, r, w, fresh))
    no_fault r w (Err fetch.TooLong) other = whole (omega (arith, r, w, fresh))
    no_fault r w (Err fetch.LinkFault) other = absurd (other refl)

    one_fault : 0 < link_faults reads_now writes_now → (answer : Result Verdict FetchEnd) → answer ≡ Err fetch.LinkFault → after ≡ faults_behind before answer
    one_fault some answer is = subst (λ (a : Result Verdict FetchEnd). after ≡ faults_behind before a) (sym is) (fault some)

    pub faults_back : (ahead left written written_now : Option (List ℕ)) (request : List ℕ) (answer : Result Verdict FetchEnd)
        → AsksOnce ahead left written written_now reads reads_now writes writes_now request answer → after ≡ faults_behind before answer
    faults_back ahead left written written_now request answer (AsksOnce.none_failed other wrote r w) = no_fault r w answer other
    faults_back ahead left written written_now request answer (AsksOnce.write_failed is n less wrote r w) = one_fault (omega (arith, r, w, fresh)) answer is
    faults_back ahead left written written_now request answer (AsksOnce.read_failed is wrote r w unsettled) = one_fault (omega (arith, r, w, fresh)) answer is
