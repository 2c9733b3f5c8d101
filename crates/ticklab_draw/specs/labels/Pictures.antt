-- Frames as SVG.
use Rattle.std.specs.Prelude.{ℕ, ◌+◌, ◌-◌, List, [], ◌∷◌, ◌++◌, codes, length}
use Rattle.ticklab_draw.specs.labels.Layout.{frame_left, frame_top, page_width, page_height}
use Rattle.ticklab_draw.specs.labels.Shapes.{drawn_once}
use Rattle.ticklab_draw.specs.Writing.{one_number, two_numbers}
use Rattle.ticklab_draw.specs.labels.Captions.{heading_text, labels_line, order_line}
use Rattle.ticklab_draw.specs.labels.Figures.{figures_text, nest_text}
use Rattle.ticklab_draw.specs.declared.labels.frame_text.TheConstants.{FRAME, FRAME_AT, FRAME_AT_END}
use Rattle.ticklab_draw.specs.declared.labels.head.TheConstants.{AND_HEIGHT, AND_MOVES, PAGE, PAGE_TITLE_END, TITLE, VIEW, VIEW_END}
use Rattle.ticklab_draw.specs.declared.labels.run.Frame.{Frame}
use Rattle.ticklab_draw.specs.declared.pieces.TheConstants.{GROUP_END, PICTURE_END}

-- the name of a frame, and its place on the page
unfoldable pub begin_text : ℕ → ℕ → List ℕ
begin_text n at =
    one_number FRAME.now at (codes "'") ++ two_numbers FRAME_AT.now (frame_left n at) (codes " ") (frame_top n at) FRAME_AT_END.now

-- the frame at this place of the list
abbrev pub frame_text : ℕ → Frame → List ℕ
frame_text at frame =
    begin_text (length frame.labels) at ++ heading_text at frame.made ++ nest_text (length frame.labels)
    ++ figures_text (length frame.labels) frame.made 0 frame.labels
    ++ labels_line frame.labels ++ order_line frame.labels ++ GROUP_END.now

-- the frames from this place on
abbrev pub frames_text : ℕ → List Frame → List ℕ
frames_text at [] = []
frames_text at (frame ∷ frames) = frame_text at frame ++ frames_text (at + 1) frames

unfoldable pub page_size : ℕ → ℕ → List ℕ
page_size width height =
    two_numbers PAGE.now width AND_HEIGHT.now height (codes "'") ++ two_numbers VIEW.now width (codes " ") height VIEW_END.now

-- the page, its title, and what is drawn once
unfoldable pub head_text : ℕ → ℕ → List ℕ
head_text n count =
    page_size (page_width n) (page_height n count) ++ two_numbers TITLE.now n AND_MOVES.now (count - 1) PAGE_TITLE_END.now ++ drawn_once n

-- the frames in order between the head and the end
abbrev pub picture : ℕ → List Frame → List ℕ
picture n frames = head_text n (length frames) ++ frames_text 0 frames ++ PICTURE_END.now
