use Rattle.serving.specs.Served.{tells_of}
use Rattle.host_commands.proofs.OneAnswer.{OneWay, one_answer}
use Rattle.host_commands.proofs.SameRuns.{LinksAlike, all_alike, calls_alike, opened_alike}
use Rattle.host_commands.proofs.same_runs.one_run_law.Given.{Over}
use Rattle.host_commands.proofs.same_runs.one_run_law.Goals as goal

links_alike : (g : Over) (c : goal.After-writing_law g) → LinksAlike g.D.Disk
links_alike g c =
    let laws : OneWay = record { ready = c.instance_law.ensures.ready; one_told = c.one_publication_law.ensures; one_more = c.machine_law.ensures.one_more } in
    c.writing_law.ensures.alike (one_answer g.D.Disk laws)

pub returns-clause-runs : goal.returns-clause-runs
returns-clause-runs g c disk other begun start after last port port_after twin twin_after clock clock_after watch watch_after number count more besides one two honest honest' seen starts clocks calm calm' =
    let so = all_alike g.D.Disk (tells_of g.P.Link.Source g.P.Link.Sink) c.link_law.ensures.exchanges c.link_law.ensures.joined c.ends_law.ensures.behind (links_alike g c)
    one.links two.links one.answers two.answers more besides begun start one.run two.run one.ended two.ended one.written two.written
    starts (opened_alike g.D.Disk c.events_law.ensures.one_meaning disk other begun start seen one.ready two.ready (one.found honest) (two.found honest')) clocks calm.disk calm'.disk calm.done calm'.done in
    (so.0, so.1.0, so.2)

pub returns-clause-calls : goal.returns-clause-calls
returns-clause-calls g c =
    calls_alike g.D.Disk g.P.Port (tells_of g.P.Link.Source g.P.Link.Sink) g.C.Clock c.events_law.ensures.one_meaning c.link_law.ensures.exchanges c.link_law.ensures.joined c.ends_law.ensures.behind (links_alike g c)
