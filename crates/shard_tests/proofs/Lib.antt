mod StepLaws
