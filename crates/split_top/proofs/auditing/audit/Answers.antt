use Rattle.std.proofs.Common.{◌≡◌, ◌<◌, ◌∙◌, inr, sym, subst}
use Rattle.split_base.specs.Ports.{TakesBack}
use Rattle.split_top.specs.Audits.{faults_behind}
use Rattle.split_top.proofs.AuditLaws.{faults_back}
use Rattle.split_top.proofs.auditing.audit.Goals as goal

pub returns : goal.returns
returns g c = (
  c.done.ensures.asked ∙ c.in-Ok.ensures.asked,
  inr (record {
    link = c.in-Ok.link;
    link_now = c.fetch-answer.new.link;
    between = c.dial.new.self;
    answer = c.fetch-answer.result;
    given = c.in-Ok.ensures.next;
    says = c.fetch-answer.ensures.says;
    asks = c.fetch-answer.ensures.asked;
    empty = c.fetch-answer.ensures.empty;
    over = c.fetch-answer.ensures.over;
    back = λ room. subst (λ given. TakesBack given (g.X.Dial.given_back c.done.new.self) c.fetch-answer.new.link) c.in-Ok.ensures.back
        (c.done.ensures.back (subst (λ n. 0 < n) (sym c.in-Ok.ensures.places) room));
    dropped = λ none. c.done.ensures.dropped (c.in-Ok.ensures.places ∙ none) ∙ c.in-Ok.ensures.back;
    fault = subst (λ n. g.X.Dial.faults c.done.new.self ≡ faults_behind n c.fetch-answer.result) c.in-Ok.ensures.count
        (faults_back (g.X.Link.Source.faults c.in-Ok.link) (g.X.Link.Source.faults c.fetch-answer.new.link) (g.X.Link.Sink.faults c.in-Ok.link) (g.X.Link.Sink.faults c.fetch-answer.new.link)
        (g.X.Dial.faults c.dial.new.self) (g.X.Dial.faults c.done.new.self) c.in-Ok.ensures.fresh c.done.ensures.whole c.done.ensures.fault
        (g.X.Link.Source.left c.in-Ok.link) (g.X.Link.Source.left c.fetch-answer.new.link) (g.X.Link.Sink.written c.in-Ok.link) (g.X.Link.Sink.written c.fetch-answer.new.link)
        _ c.fetch-answer.result c.fetch-answer.ensures.asked);
    is = c.ending.ensures;
  }),
)
