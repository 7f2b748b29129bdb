mod FittingAnswers
mod FrameEffects
