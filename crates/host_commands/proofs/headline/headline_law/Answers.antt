use Rattle.serving.specs.Served.{tells_of}
use Rattle.host_commands.proofs.Headlines.{RunLaws, any_headline, told_headline}
use Rattle.host_commands.proofs.Published.{CaseLaws}
use Rattle.host_commands.proofs.headline.headline_law.Given.{Over}
use Rattle.host_commands.proofs.headline.headline_law.Goals as goal

run_laws : (g : Over) (c : goal.After-refusal_status_law g) → RunLaws g.D.Disk
run_laws g c = record {
  seen = g.met.D.Disk.seen_is_image;
  one_meaning = c.events_law.ensures.one_meaning;
  files = c.files_law.ensures;
  exchanges = c.link_law.ensures.exchanges;
  joined = c.link_law.ensures.joined;
  afterwards = c.ends_law.ensures.behind;
  crash = c.crash_law.ensures;
  acknowledged = c.acknowledged_law.ensures;
  accepted = c.accepted_law.ensures;
  integrity = c.integrity_law.ensures;
  handled = c.handled_law.ensures.run;
}

case_laws : (g : Over) (c : goal.After-refusal_status_law g) → CaseLaws
case_laws g c = record {
  refusals = c.refusal_status_law.ensures.refusal;
  valid = c.case_law.ensures.valid;
  certificate = c.certificate_law.ensures.certificate;
  prints = c.certificate_verdict_law.ensures.best;
  ready = c.instance_law.ensures.ready;
  one_told = c.one_publication_law.ensures;
  one_more = c.machine_law.ensures.one_more;
  shut = λ h t id command asked. c.publication_law.ensures.closed h t id command asked;
}

pub returns-clause-told : goal.returns-clause-told
returns-clause-told g c = told_headline g.D.Disk g.P.Port (tells_of g.P.Link.Source g.P.Link.Sink) g.C.Clock (run_laws g c) (case_laws g c)

pub returns-clause-any : goal.returns-clause-any
returns-clause-any g c = any_headline g.D.Disk g.P.Port (tells_of g.P.Link.Source g.P.Link.Sink) g.C.Clock (run_laws g c) (case_laws g c)
