use Rattle.serving.proofs.ports.serve_link.Goals as goal

pub returns-clause-served : goal.returns-clause-served
returns-clause-served g c w stands =
    let ran = c.serve_one-end.ensures.run w stands in
    record {
      ended = c.serve_one-end.new.link;
      answers = ran.answers;
      new = ran.new;
      clock = ran.clock;
      serving = ran.serving;
      served = record {
        input = ran.all;
        out = ran.out;
        ending = ran.ending;
        told = ran.told;
        wrote = ran.wrote;
        counts = ran.counts;
        run = ran.run_is;
      };
      given = c.done.ensures.back;
      dropped = c.done.ensures.dropped;
    }
