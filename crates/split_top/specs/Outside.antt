-- The objects outside a command, before it and after it.
use Rattle.std.specs.Prelude.{◌≡◌}
use Rattle.command_results.specs.ObjectUse.{IsUntouched, ObjectUse}

-- the disk, the port, the clock and the dialer before and after a command, and what its input and its output tell
pub record Outside (D P C X : Type 0) : Type 0 where
  pub disk : D
  pub disk_now : D
  pub port : P
  pub port_now : P
  pub clock : C
  pub clock_now : C
  pub dialer : X
  pub dialer_now : X
  pub input : ObjectUse
  pub output : ObjectUse

-- the objects of the outside before and after a call
abbrev pub outside_of : {D P C X : Type 0} → D → D → P → P → C → C → X → X → ObjectUse → ObjectUse → Outside D P C X
outside_of disk disk_now port port_now clock clock_now dialer dialer_now input output = record {
  disk = disk;
  disk_now = disk_now;
  port = port;
  port_now = port_now;
  clock = clock;
  clock_now = clock_now;
  dialer = dialer;
  dialer_now = dialer_now;
  input = input;
  output = output;
}

-- nothing but the output was touched
pub record UsesNothing {D P C X : Type 0} (outside : Outside D P C X) : Type 0 where
  pub disk : outside.disk_now ≡ outside.disk
  pub port : outside.port_now ≡ outside.port
  pub clock : outside.clock_now ≡ outside.clock
  pub dialer : outside.dialer_now ≡ outside.dialer
  pub input : IsUntouched outside.input

-- nothing but the disk and the output was touched
pub record UsesDisk {D P C X : Type 0} (outside : Outside D P C X) : Type 0 where
  pub port : outside.port_now ≡ outside.port
  pub clock : outside.clock_now ≡ outside.clock
  pub dialer : outside.dialer_now ≡ outside.dialer
  pub input : IsUntouched outside.input

-- nothing but the disk, the port, the clock and the output was touched
pub record UsesHost {D P C X : Type 0} (outside : Outside D P C X) : Type 0 where
  pub dialer : outside.dialer_now ≡ outside.dialer
  pub input : IsUntouched outside.input

-- nothing but the dialer and the output was touched
pub record UsesDialer {D P C X : Type 0} (outside : Outside D P C X) : Type 0 where
  pub disk : outside.disk_now ≡ outside.disk
  pub port : outside.port_now ≡ outside.port
  pub clock : outside.clock_now ≡ outside.clock
  pub input : IsUntouched outside.input

-- nothing but the input and the output was touched
pub record UsesInput {D P C X : Type 0} (outside : Outside D P C X) : Type 0 where
  pub disk : outside.disk_now ≡ outside.disk
  pub port : outside.port_now ≡ outside.port
  pub clock : outside.clock_now ≡ outside.clock
  pub dialer : outside.dialer_now ≡ outside.dialer
