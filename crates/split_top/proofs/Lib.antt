mod AuditLaws
mod CauseLaws
mod Finishing
mod OneCommand
mod SameOutput
mod ServeLaws
