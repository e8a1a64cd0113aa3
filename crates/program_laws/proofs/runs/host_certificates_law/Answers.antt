use Rattle.serving.specs.Serving.{host_service}
use Rattle.program_laws.specs.Certificates.{IsYes, IsYesOnly}
use Rattle.program_laws.proofs.SentCertificates.{every_certificate}
use Rattle.program_laws.proofs.runs.host_certificates_law.Goals as goal

pub returns-clause-yes : goal.returns-clause-yes
returns-clause-yes g c disk after begun port port_after clock clock_after number host =
    every_certificate IsYes (host_service g.D.Disk) c.host_reply_law.ensures.yes begun host.run host.ended host.machine host.published

pub returns-clause-only : goal.returns-clause-only
returns-clause-only g c disk after begun port port_after clock clock_after number host =
    every_certificate IsYesOnly (host_service g.D.Disk) c.host_reply_law.ensures.only begun host.run host.ended host.machine host.published
