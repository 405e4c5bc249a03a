-- A response whose number fits. Only private contracts cite this.
-- Assumes nothing.
use Rattle.std.specs.Prelude.{◌≤◌}
use Rattle.link_frame.specs.Frame.{max_data}
use Rattle.link_receive.specs.Receive.{Response, nothing, sends, delivers, refuses}

-- a message is no longer than a block holds, and what is sent is a byte
abbrev pub SmallResponse : Response → Type 0
SmallResponse (delivers b n) = n ≤ max_data
SmallResponse (sends b) = b ≤ 255
SmallResponse nothing = Unit
SmallResponse (refuses k) = Unit
