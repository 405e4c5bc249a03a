-- A response whose number fits. Only private contracts cite this.
-- Assumes nothing.
use Rattle.std.specs.Prelude.{◌≤◌}
use Rattle.link_frame.specs.Frame.{max_data}
use Rattle.link_send.specs.Send.{SendResponse, sends, delivers, refuses}
use Rattle.c_link.specs.Bounds.{max_frame}

-- no more is sent than the longest frame, and a message is no longer than a block holds
abbrev pub SmallResponse : SendResponse → Type 0
SmallResponse (sends n) = n ≤ max_frame
SmallResponse (delivers n count) = (n ≤ max_frame) × (count ≤ max_data)
SmallResponse (refuses k) = Unit
